use Rattle.std.proofs.Common.{rules, ◌≡◌, ◌-◌, ◌+◌, ◌∙◌, ◌∷◌, ◌++◌, [], length, sym, ap, arith}
use Rattle.spec_syntax.specs.Reader.{found}
use Rattle.gl_line_reader.specs.Members.{read_members, read_part}
use Rattle.gl_line_reader.specs.declared.composite.Part.TheVariants.{Member, May}
use Rattle.gl_line_reader.proofs.Members.{members_on, members_may, members_stop, part_length}
use Rattle.gl_line_reader.proofs.composite.members_ahead.Goals as goal

pub returns-in_err-part : goal.returns-in_err-part
returns-in_err-part c =
    let stops = members_stop c.members.members c.members.column c.members.invariant.most c.members.rest.now in
    search (rules, stops, c.members.invariant.whole, c.members.invariant.enough)

pub returns-in-May : goal.returns-in-May
returns-in-May c =
    let before = c.members.invariant in
    let rest = c.members.rest.now in
    let others = c.in_ok-part.others.now in
    let part : read_part c.members.column rest ≡ found (May c.in-May.may) others = c.in_ok-part.ensures ∙ ap (λ p. found p others) c.in-May.is in
    sym before.whole ∙ members_may c.members.members c.members.column before.most rest c.in-May.may others before.enough (sym c.begins_with.ensures ∙ c.members-test.true) part

pub past-column-requires : goal.past-column-requires
past-column-requires c =
    let others = c.in_ok-part.others.now in
    let part : read_part c.members.column c.members.rest.now ≡ found (Member c.in-Member.member) others = c.in_ok-part.ensures ∙ ap (λ p. found p others) c.in-Member.is in
    omega (arith, c.members.invariant.columns, part_length c.members.column c.members.rest.now c.in-Member.member others part)

pub members-smaller : goal.members-smaller
members-smaller c =
    let others = c.in_ok-part.others.now in
    let part : read_part c.members.column c.members.rest.now ≡ found (Member c.in-Member.member) others = c.in_ok-part.ensures ∙ ap (λ p. found p others) c.in-Member.is in
    omega (arith, part_length c.members.column c.members.rest.now c.in-Member.member others part)

pub members-preserved : goal.members-preserved
members-preserved c =
    let before = c.members.invariant in
    let rest = c.members.rest.now in
    let others = c.in_ok-part.others.now in
    let member = c.in-Member.member in
    let part : read_part c.members.column rest ≡ found (Member member) others = c.in_ok-part.ensures ∙ ap (λ p. found p others) c.in-Member.is in
    let used = part_length c.members.column rest member others part in
    let column : c.past-column.result ≡ c.members.column + 1 + length member.name = c.past-column.ensures in
    record {
      most = before.most - 1;
      enough = omega (arith, before.enough, used);
      columns = omega (arith, before.columns, column, used);
      whole =
          ap (λ members. read_members members c.past-column.result (before.most - 1) others) c.in_ok-members.ensures
          ∙ ap (λ n. read_members (c.members.members ++ member ∷ []) n (before.most - 1) others) column
          ∙ sym (members_on c.members.members c.members.column before.most rest member others before.enough (sym c.begins_with.ensures ∙ c.members-test.true) part)
          ∙ before.whole;
    }
