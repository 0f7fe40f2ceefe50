use Rattle.std.proofs.Common.{◌≡◌, ◌<◌, ◌∙◌, length, ap, sym, subst}
use Rattle.std.specs.Prelude.{Some, None, slice_index_or}
use Rattle.std.specs.Option.{option_copied}
use Rattle.gl_graph.specs.declared.keeps.Keeps.TheVariants.{Composite, Held}
use Rattle.gl_graph.specs.declared.keeps.KeepsUndo.TheVariants as u
use Rattle.spec_states.specs.Leads.{LeadsTo}
use Rattle.gl_graph.specs.Nodes.{own_of, shown_by, OnInput, AreAmong, StandsFor}
use Rattle.gl_graph.specs.Graph.{IsLimited}
use Rattle.gl_graph.specs.Spread.{delta_told, shown_before, IsFollowing, IsOtherStep, IsOtherStopped}
use Rattle.gl_graph.proofs.HeldSteps.{follows_from, kept_step}
use Rattle.gl_graph.proofs.MemberDeltas.{can_follow, are_of, stands_later, followed, not_followed, long_later}
use Rattle.gl_graph.proofs.keeps.Keeps.follow.Goals as goal

pub advance-requires-in-Composite : goal.advance-requires-in-Composite
advance-requires-in-Composite g c =
    let shows = shown_by c.args.prefix.now c.args.positions.now in
    let deltas = c.args.deltas.now in
    let of = c.in-Composite in
    let can = can_follow deltas shows of.needed of.composite.lists (subst (OnInput (λ i. i < length deltas)) of.is c.requires.within)
    (subst (OnInput (λ i. LeadsTo (delta_told deltas shows i) (shows i))) of.is c.requires.can.leads) (subst AreAmong of.is c.requires.among) in
    are_of deltas shows of.composite.lists of.composite.lens (subst (λ k. StandsFor k (shown_before deltas shows)) of.is c.requires.can.stood) can

pub returns-in-Ok-advance-clause-ok : goal.returns-in-Ok-advance-clause-ok
returns-in-Ok-advance-clause-ok g c =
    let shows = shown_by c.args.prefix.now c.args.positions.now in
    let deltas = c.args.deltas.now in
    let of = c.in-Composite in
    let new = c.advance-in-Composite.new.self in
    let done = c.in-Ok-advance in
    let e = done.ensures in
    let can = can_follow deltas shows of.needed of.composite.lists (subst (OnInput (λ i. i < length deltas)) of.is c.requires.within)
    (subst (OnInput (λ i. LeadsTo (delta_told deltas shows i) (shows i))) of.is c.requires.can.leads) (subst AreAmong of.is c.requires.among) in
    let stood = subst (λ k. StandsFor k (shown_before deltas shows)) of.is c.requires.can.stood in
    subst (λ k. IsFollowing shows deltas k (Composite of.needed new) done.out (u.Composite done.undo)) (sym of.is)
    (followed shows deltas of.needed of.composite new done.out done.undo (c.is_told.ensures.0 c.if-not-is_told.false) (record {
      told = e.pieces (shown_before deltas shows) stood;
      stands = stands_later deltas shows of.composite new can e.stands stood;
      lists = e.lists;
      limit = e.limit;
      room = e.room;
      list_room = e.list_room;
      undo_is = e.undo;
    }))

pub returns-in-Err-advance-clause-stopped : goal.returns-in-Err-advance-clause-stopped
returns-in-Err-advance-clause-stopped g c = λ limit limited.
    let shows = shown_by c.args.prefix.now c.args.positions.now in
    let deltas = c.args.deltas.now in
    let of = c.in-Composite in
    let made = c.advance-in-Composite in
    let can = can_follow deltas shows of.needed of.composite.lists (subst (OnInput (λ i. i < length deltas)) of.is c.requires.within)
    (subst (OnInput (λ i. LeadsTo (delta_told deltas shows i) (shows i))) of.is c.requires.can.leads) (subst AreAmong of.is c.requires.among) in
    let stood = subst (λ k. StandsFor k (shown_before deltas shows)) of.is c.requires.can.stood in
    let why = c.refusal_by-in-Err-advance in
    subst (λ k. IsOtherStopped limit shows deltas c.args.list (own_of k) why.result) (sym of.is)
    (not_followed made.result c.args.list shows deltas of.needed of.composite c.in-Err-advance.fault why.result (c.is_told.ensures.0 c.if-not-is_told.false)
    (λ len is. let both = (made.ensures.too_long len).0 is in (both.0, both.1 ∙ long_later deltas shows of.composite.lists of.composite.lens stood can))
    c.in-Err-advance.is why.ensures limit (subst (IsLimited limit) of.is limited))

pub keep-requires : goal.keep-requires
keep-requires g c =
    let shows = shown_by c.args.prefix.now c.args.positions.now in
    let deltas = c.args.deltas.now in
    let of = c.in-Held in
    let told : slice_index_or deltas of.input None ≡ Some c.in-Some-get.d.now = sym c.get-in-Held.ensures ∙ ap option_copied c.in-Some-get.is in
    follows_from deltas shows of.input of.held c.in-Some-get.d.now told (subst (OnInput (λ i. LeadsTo (delta_told deltas shows i) (shows i))) of.is c.requires.can.leads)
    (subst (λ k. StandsFor k (shown_before deltas shows)) of.is c.requires.can.stood)

pub returns-in_ok-keep-in-Some-get-clause-ok : goal.returns-in_ok-keep-in-Some-get-clause-ok
returns-in_ok-keep-in-Some-get-clause-ok g c =
    let shows = shown_by c.args.prefix.now c.args.positions.now in
    let deltas = c.args.deltas.now in
    let of = c.in-Held in
    let done = c.in_ok-keep-in-Some-get in
    let told : slice_index_or deltas of.input None ≡ Some c.in-Some-get.d.now = sym c.get-in-Held.ensures ∙ ap option_copied c.in-Some-get.is in
    subst (λ k. IsOtherStep shows deltas c.args.list k (Held of.input c.keep.new.held) done.field-0) (sym of.is)
    (kept_step shows deltas c.args.list of.input of.held c.keep.new.held c.in-Some-get.d.now done.field-0 told done.ensures.ok)
