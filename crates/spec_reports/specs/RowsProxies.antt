-- Whole reports of a plan with a proxy.
use Rattle.std.specs.Prelude.{◌≡◌, ◌++◌, [], ◌∷◌, refl, codes}
use Rattle.std.specs.Fmt.{digits}
use Rattle.gl_outside.specs.declared.gate.Actor.TheVariants.{Writer, Proxy}
use Rattle.spec_runs.specs.Fits.{empty_queue}
use Rattle.spec_runs.specs.RowsProxies.{forwarded}
use Rattle.spec_reports.specs.Report.{report}
use Rattle.spec_reports.specs.Answer.{misfit, replayed, text_of_outcome}

-- three elements, of which the proxy has taken one
forwarded_report :
    report forwarded (Writer 0 ∷ Writer 0 ∷ Proxy 0 ∷ Writer 0 ∷ [])
    ≡ codes "order w0,w0,p0,w0\n"
    ++ codes "at 0 w0\nreply 0 ok\n"
    ++ codes "at 1 w0\nreply 0 ok\n"
    ++ codes "at 2 p0\ntold a insert 0 1\n"
    ++ codes "at 3 w0\nreply 0 ok\n"
    ++ codes "list s [1,2,3]\nlist p [1]\nheld p queued 2\n"
unfolding digits
forwarded_report = refl

-- it has taken all three
all_forwarded_report :
    report forwarded (Writer 0 ∷ Writer 0 ∷ Proxy 0 ∷ Writer 0 ∷ Proxy 0 ∷ Proxy 0 ∷ [])
    ≡ codes "order w0,w0,p0,w0,p0,p0\n"
    ++ codes "at 0 w0\nreply 0 ok\n"
    ++ codes "at 1 w0\nreply 0 ok\n"
    ++ codes "at 2 p0\ntold a insert 0 1\n"
    ++ codes "at 3 w0\nreply 0 ok\n"
    ++ codes "at 4 p0\ntold a insert 1 2\n"
    ++ codes "at 5 p0\ntold a insert 2 3\n"
    ++ codes "list s [1,2,3]\nlist p [1,2,3]\nheld p queued 0\n"
unfolding digits
all_forwarded_report = refl

-- there is nothing left to take
nothing_left :
    replayed forwarded
    (Writer 0 ∷ Writer 0 ∷ Proxy 0 ∷ Writer 0 ∷ Proxy 0 ∷ Proxy 0 ∷ Proxy 0 ∷ [])
    ≡ misfit (record { place = 6; reason = empty_queue })
nothing_left = refl

nothing_left_text :
    text_of_outcome (misfit (record { place = 6; reason = empty_queue }))
    ≡ codes "order: place 6: empty-queue\n"
unfolding digits
nothing_left_text = refl
