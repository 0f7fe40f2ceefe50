use Rattle.std.proofs.Common.{◌≡◌, ◌<◌, ◌∙◌, ◌+◌, ◌++◌, ◌∷◌, [], List, length, map, drop, slice_get, OnOk, Some, refl, ap, sym, subst, arith}
use Rattle.std.proofs.lemmas.Option.{slice_get_read}
use Rattle.gl_joined.specs.Tree.{Tree}
use Rattle.gl_joined.specs.Piece.{Piece, updated, deleted, inserted, normal}
use Rattle.gl_kernel.specs.Plans.{CanTell}
use Rattle.gl_kernel.proofs.Spreads.{told_more, can_tell_part}
use Rattle.gl_kernel.proofs.Made.{append_nothing}
use Rattle.gl_collection.specs.Told.{child_updates}
use Rattle.gl_collection.proofs.Told.{updates_split, updates_rest}
use Rattle.gl_collection.proofs.children.tell_children.Goals as goal

pub tell-requires : goal.tell-requires
tell-requires c =
    let olds = c.args.olds.now in
    let news = c.args.news.now in
    let i = c.children.position in
    let out = c.children.out.pieces in
    let x = c.index-olds-position.result in
    let y = c.index-news-position.result in
    let low : i < c.min-paired.result = grind (arith, c.children-test.true) in
    let old : slice_get olds i ≡ Some x = slice_get_read olds (length olds) i x refl (omega (arith, low, c.min-paired.ensures)) c.index-olds-position.is in
    let new : slice_get news i ≡ Some y = slice_get_read news (length news) i y refl (omega (arith, low, c.min-paired.ensures)) c.index-news-position.is in
    let Can : Tree → Tree → Type 0 = λ v w. CanTell (updated v w ∷ []) out in
    let Can_old : Tree → Type 0 = λ v. Can v c.in_ok-copy-2.field-0 in
    subst Can_old (sym c.in_ok-copy.ensures) (subst (Can x) (sym c.in_ok-copy-2.ensures)
    (can_tell_part c.args.out.now.pieces out (child_updates olds news) (updated x y ∷ []) (child_updates (drop (i + 1) olds) (drop (i + 1) news)) c.requires
    (ap (λ ps. normal (out ++ ps)) (sym (updates_split olds news i x y old new)) ∙ c.children.invariant)))

pub children-preserved : goal.children-preserved
children-preserved c =
    let olds = c.args.olds.now in
    let news = c.args.news.now in
    let i = c.children.position in
    let out = c.children.out.pieces in
    let x = c.index-olds-position.result in
    let y = c.index-news-position.result in
    let low : i < c.min-paired.result = grind (arith, c.children-test.true) in
    let old : slice_get olds i ≡ Some x = slice_get_read olds (length olds) i x refl (omega (arith, low, c.min-paired.ensures)) c.index-olds-position.is in
    let new : slice_get news i ≡ Some y = slice_get_read news (length news) i y refl (omega (arith, low, c.min-paired.ensures)) c.index-news-position.is in
    told_more (normal (c.args.out.now.pieces ++ child_updates olds news)) out c.tell-in-children.new.out.pieces (updated x y ∷ []) (child_updates (drop (i + 1) olds) (drop (i + 1) news))
    (ap (λ ps. normal (out ++ ps)) (sym (updates_split olds news i x y old new)) ∙ c.children.invariant)
    (c.in_ok-tell.ensures
    ∙ (ap (λ v. normal (out ++ updated v c.in_ok-copy-2.field-0 ∷ [])) c.in_ok-copy.ensures ∙ ap (λ w. normal (out ++ updated x w ∷ [])) c.in_ok-copy-2.ensures))

pub tell_part-requires : goal.tell_part-requires
tell_part-requires c =
    let olds = c.args.olds.now in
    let news = c.args.news.now in
    let p = c.min-paired.result in
    let out = c.children.out.pieces in
    let at : c.children.position ≡ p = omega (arith, c.children-test.false, c.children.auto.position-end) in
    let whole = ap (λ ps. normal (out ++ ps)) (sym (updates_rest olds news p c.min-paired.ensures))
    ∙ (ap (λ k. normal (out ++ child_updates (drop k olds) (drop k news))) (sym at) ∙ c.children.invariant) in
    can_tell_part c.args.out.now.pieces out (child_updates olds news) (map deleted (drop p olds)) (map inserted (drop p news)) c.requires whole

pub tell_part-requires-2 : goal.tell_part-requires-2
tell_part-requires-2 c =
    let olds = c.args.olds.now in
    let news = c.args.news.now in
    let p = c.min-paired.result in
    let out = c.children.out.pieces in
    let more = c.tell_part.new.out.pieces in
    let at : c.children.position ≡ p = omega (arith, c.children-test.false, c.children.auto.position-end) in
    let whole = ap (λ ps. normal (out ++ ps)) (sym (updates_rest olds news p c.min-paired.ensures))
    ∙ (ap (λ k. normal (out ++ child_updates (drop k olds) (drop k news))) (sym at) ∙ c.children.invariant) in
    let left = told_more (normal (c.args.out.now.pieces ++ child_updates olds news)) out more (map deleted (drop p olds)) (map inserted (drop p news)) whole c.in_ok-tell_part.ensures in
    can_tell_part c.args.out.now.pieces more (child_updates olds news) (map inserted (drop p news)) [] c.requires
    (ap (λ ps. normal (more ++ ps)) (append_nothing (map inserted (drop p news))) ∙ left)

pub returns : goal.returns
returns c =
    let olds = c.args.olds.now in
    let news = c.args.news.now in
    let p = c.min-paired.result in
    let out = c.children.out.pieces in
    let more = c.tell_part.new.out.pieces in
    let at : c.children.position ≡ p = omega (arith, c.children-test.false, c.children.auto.position-end) in
    let whole = ap (λ ps. normal (out ++ ps)) (sym (updates_rest olds news p c.min-paired.ensures))
    ∙ (ap (λ k. normal (out ++ child_updates (drop k olds) (drop k news))) (sym at) ∙ c.children.invariant) in
    let left = told_more (normal (c.args.out.now.pieces ++ child_updates olds news)) out more (map deleted (drop p olds)) (map inserted (drop p news)) whole c.in_ok-tell_part.ensures in
    let Told : List Piece → Type 0 = λ ps. OnOk c.tell_part-2.result (c.tell_part-2.new.out.pieces ≡ ps) in
    subst Told left c.tell_part-2.ensures
