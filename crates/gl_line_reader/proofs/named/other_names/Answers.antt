use Rattle.std.proofs.Common.{rules, ◌≡◌, ◌-◌, ◌+◌, ◌∙◌, ◌∷◌, ◌++◌, [], length, sym, ap, arith}
use Rattle.gl_line_reader.specs.Named.{read_more}
use Rattle.gl_line_reader.proofs.Columns.{more_on, more_stops}
use Rattle.gl_line_reader.proofs.named.other_names.Goals as goal

pub returns-in_err-name : goal.returns-in_err-name
returns-in_err-name c =
    let stops = more_stops c.args.separator c.names.names c.names.column c.names.invariant.most c.names.rest.now in
    search (rules, stops, c.names.invariant.whole, c.names.invariant.enough)

pub names-preserved : goal.names-preserved
names-preserved c =
    let before = c.names.invariant in
    let others = c.in_ok-name.others.now in
    let name = c.in_ok-name.name in
    let column : c.past-column.result ≡ c.names.column + 1 + length name.name = c.past-column.ensures in
    record {
      most = before.most - 1;
      enough = omega (arith, before.enough, c.in_ok-name.ensures.used);
      columns = omega (arith, before.columns, column, c.in_ok-name.ensures.used);
      whole =
          ap (λ names. read_more c.args.separator names c.past-column.result (before.most - 1) others) c.in_ok-names.ensures
          ∙ ap (λ n. read_more c.args.separator (c.names.names ++ name ∷ []) n (before.most - 1) others) column
          ∙ sym (more_on c.args.separator c.names.names c.names.column before.most c.names.rest.now name others before.enough (sym c.begins_with.ensures ∙ c.names-test.true) c.in_ok-name.ensures.read)
          ∙ before.whole;
    }
