use Rattle.std.proofs.Common.{◌≡◌, ◌<◌, ◌∷◌, [], length, slice_set, sym, ap, subst, ◌∙◌, refl, false, true, arith}
use Rattle.std.specs.Vec.{vec_capacity}
use Rattle.query_core.specs.Lists.{Has}
use Rattle.query_core.specs.Tallies.{AreListed, tally_at}
use Rattle.query_core.proofs.Words.{Has-left, Has-middle}
use Rattle.query_core.proofs.Counting.{listed_most, listed_less, put_on, tally_is, set_long}
use Rattle.query_core.proofs.tallies.Tallies.list.Goals as goal

pub returns-then-index-clause-bounded : goal.returns-then-index-clause-bounded
returns-then-index-clause-bounded c = rw (← c.self.view_is) (let f = c.self.invariant.fits in let m = listed_most c.self.inside.tallies.items in omega arith)

pub push_reserved-requires : goal.push_reserved-requires
push_reserved-requires c =
    let lt : c.args.node < length c.self.inside.tallies.items = subst (λ o. c.args.node < length o.tallies) (sym c.self.view_is) c.requires in
    let off : (tally_at c.self.inside.tallies.items c.args.node).listed ≡ false = sym (ap (λ t. t.listed) (tally_is c.self.inside.tallies.items c.args.node c.index.result.now lt c.index.ensures)) ∙ c.if-index.false in
    let l = listed_less c.self.inside.tallies.items c.args.node lt off in let f = c.self.invariant.fits in let r = c.self.invariant.room in let k = c.self.inside.unread.ok.0 in omega arith

pub invariant_of-self : goal.invariant_of-self
invariant_of-self c =
    let lt : c.args.node < length c.self.inside.tallies.items = subst (λ o. c.args.node < length o.tallies) (sym c.self.view_is) c.requires in
    let off : (tally_at c.self.inside.tallies.items c.args.node).listed ≡ false = sym (ap (λ t. t.listed) (tally_is c.self.inside.tallies.items c.args.node c.index.result.now lt c.index.ensures)) ∙ c.if-index.false in
    subst (λ n. AreListed (slice_set c.self.inside.tallies.items c.args.node (record { reads = c.index_mut.result.now.reads; listed = true })) c.push_reserved.new.self.items n) (sym c.push_reserved.ensures.capacity)
    (put_on c.self.inside.tallies.items c.self.inside.unread.items c.push_reserved.new.self.items (vec_capacity c.self.inside.unread) c.args.node (record { reads = c.index_mut.result.now.reads; listed = true }) c.self.invariant lt off refl c.push_reserved.ensures.items
    (let a = c.push_reserved.ensures.len in let b = c.push_reserved.new.self.ok.0 in let d = c.self.inside.unread.ok.0 in omega arith) (set_long c.self.inside.tallies.items c.args.node (record { reads = c.index_mut.result.now.reads; listed = true })))

pub returns-clause-kept : goal.returns-clause-kept
returns-clause-kept c = rw (← c.self.view_is) (λ j h. subst (λ l. Has l j) (sym c.push_reserved.ensures.items) (Has-left c.self.inside.unread.items (c.args.node ∷ []) j h))

pub returns-clause-listed : goal.returns-clause-listed
returns-clause-listed c = subst (λ l. Has l c.args.node) (sym c.push_reserved.ensures.items) (Has-middle c.self.inside.unread.items [] c.args.node)

pub returns-clause-bounded : goal.returns-clause-bounded
returns-clause-bounded c =
    let lt : c.args.node < length c.self.inside.tallies.items = subst (λ o. c.args.node < length o.tallies) (sym c.self.view_is) c.requires in
    let off : (tally_at c.self.inside.tallies.items c.args.node).listed ≡ false = sym (ap (λ t. t.listed) (tally_is c.self.inside.tallies.items c.args.node c.index.result.now lt c.index.ensures)) ∙ c.if-index.false in
    let l = listed_less c.self.inside.tallies.items c.args.node lt off in
    let f = c.self.invariant.fits in
    let s = set_long c.self.inside.tallies.items c.args.node (record { reads = c.index_mut.result.now.reads; listed = true }) in
    let a = c.push_reserved.ensures.len in let b = c.push_reserved.new.self.ok.0 in let d = c.self.inside.unread.ok.0 in omega arith
