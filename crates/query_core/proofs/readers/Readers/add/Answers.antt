use Rattle.std.proofs.Common.{sym, length, ap, subst, ◌<◌, arith}
use Rattle.query_core.specs.Readers.{KeepsLive}
use Rattle.query_core.proofs.Linking.{keeps_same, keeps_on, keeps_push, row_is, added_push}
use Rattle.query_core.proofs.readers.Readers.add.Goals as goal

pub returns-clause-kept : goal.returns-clause-kept
returns-clause-kept c =
    let lt : c.args.node < length c.self-2.inside.rows.items = (let a = c.in_ok-cover_row.ensures.covered in let b = c.make_room.ensures.long in let l = ap length c.self-2.view_is in omega arith) in
    rw (← c.self.view_is)
    (keeps_on c.self.inside.rows.items c.self-2.inside.rows.items _
    (subst (KeepsLive c.self.inside.rows.items) (sym c.self-2.view_is) (keeps_on c.self.inside.rows.items c.cover_row.new.rows.items c.make_room.new.self (keeps_same c.self.inside.rows.items c.cover_row.new.rows.items c.in_ok-cover_row.ensures.same) c.make_room.ensures.kept))
    (keeps_push c.self-2.inside.rows.items c.args.node c.index_mut.result.now c.push.new.self lt (row_is c.self-2.inside.rows.items c.args.node c.index_mut.result.now lt c.index_mut.ensures.value) c.push.ensures.run c.push.ensures.more))

pub returns-clause-added : goal.returns-clause-added
returns-clause-added c =
    let lt : c.args.node < length c.self-2.inside.rows.items = (let a = c.in_ok-cover_row.ensures.covered in let b = c.make_room.ensures.long in let l = ap length c.self-2.view_is in omega arith) in
    added_push c.push.result c.self-2.inside.rows.items c.args.node c.push.new.self c.args.reader lt c.push.ensures.added
