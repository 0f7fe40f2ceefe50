use Rattle.std.proofs.Common.{refl, subst}
use Rattle.std.specs.Prelude.{Option, OnOk}
use Rattle.gl_delta.specs.Model.{DeltaModel}
use Rattle.gl_tell.specs.Handed.{IsHanded}
use Rattle.gl_tell.proofs.handing.hand.Goals as goal

pub returns-in-None-clause-handed : goal.returns-in-None-clause-handed
returns-in-None-clause-handed c =
    let Handed : Option DeltaModel → Type 0 = λ o. IsHanded o c.args.listeners.now c.args.heard.now c.args.heard.now in
    subst Handed c.in-None.ensures.taken refl

pub returns-in-Some-clause-handed : goal.returns-in-Some-clause-handed
returns-in-Some-clause-handed c =
    let Handed : Option DeltaModel → Type 0 =
    λ o. OnOk c.give.result (IsHanded o c.args.listeners.now c.args.heard.now c.give.new.heard) in
    subst Handed c.in-Some.ensures.taken c.give.ensures
