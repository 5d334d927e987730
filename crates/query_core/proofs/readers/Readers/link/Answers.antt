use Rattle.std.proofs.Common.{sym, ap, subst, refl, length, ◌<◌, arith, List}
use Rattle.std.proofs.lemmas.List.{nil_from_length}
use Rattle.query_core.specs.Readers.{Entries}
use Rattle.query_core.proofs.Linking.{Linking, linking_named, row_is}
use Rattle.query_core.proofs.readers.Readers.link.Goals as goal

pub returns-clause-named : goal.returns-clause-named
returns-clause-named c =
    let k = c.reads.invariant in
    let lt : c.args.node < length c.self-2.inside.rows.items = (let l = ap length c.self-2.view_is in let v = k.covered in omega arith) in
    linking_named c.args.self.now c.self-2.inside.rows.items (record { node = c.args.node; run = c.next_run.result }) c.reads.rest.now c.args.reads.now (subst (λ (l : List Entries). Linking c.args.self.now l (record { node = c.args.node; run = c.next_run.result }) c.reads.rest.now c.args.reads.now) (sym c.self-2.view_is) k) _
    c.index_mut.result.now c.set_run.new.self (row_is c.self-2.inside.rows.items c.args.node c.index_mut.result.now lt c.index_mut.ensures.value) c.set_run.ensures refl (nil_from_length c.reads.rest.now (c.in_default.ensures.cases))
