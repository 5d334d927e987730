use Rattle.std.proofs.Common.{◌≡◌, ◌∙◌, take, length-take, ◌+◌, ◌<◌, ◌∷◌, length, drop, map, sym, ap, rules, arith}
use Rattle.io_edges.specs.Memory.{next_piece}
use Rattle.io_edges.proofs.PieceLemmas.{finds, at_piece, take_copied, within_head, head_within}
use Rattle.io_edges.proofs.pieces.Pieces.take.Goals as goal

pub split_at-requires : goal.split_at-requires
split_at-requires c =
    let h : c.self.inside.next < length c.self.inside.pieces.items = search (rules, arith) in
    let e0 = at_piece (λ p. p.items) c.self.inside.pieces.items c.self.inside.next c.index.result.now h in
    let e : drop c.self.inside.next (map (λ p. p.items) c.self.inside.pieces.items) ≡ c.as_slice.result.now ∷ drop (c.self.inside.next + 1) (map (λ p. p.items) c.self.inside.pieces.items) = cc in
    within_head _ _ _ _ e c.self.invariant

pub invariant_of-self : goal.invariant_of-self
invariant_of-self c =
    let h : c.self.inside.next < length c.self.inside.pieces.items = search (rules, arith) in
    let e0 = at_piece (λ p. p.items) c.self.inside.pieces.items c.self.inside.next c.index.result.now h in
    let e : drop c.self.inside.next (map (λ p. p.items) c.self.inside.pieces.items) ≡ c.as_slice.result.now ∷ drop (c.self.inside.next + 1) (map (λ p. p.items) c.self.inside.pieces.items) = cc in
    head_within _ _ _ _ e (omega arith)

pub returns-clause-count : goal.returns-clause-count
returns-clause-count c =
    let h : c.self.inside.next < length c.self.inside.pieces.items = search (rules, arith) in
    let e0 = at_piece (λ p. p.items) c.self.inside.pieces.items c.self.inside.next c.index.result.now h in
    let e : drop c.self.inside.next (map (λ p. p.items) c.self.inside.pieces.items) ≡ c.as_slice.result.now ∷ drop (c.self.inside.next + 1) (map (λ p. p.items) c.self.inside.pieces.items) = cc in
    let f = finds _ _ _ c.self.inside.at c.args.self.now e (c.self.view_is ∙ c.skip_empty.ensures) in
    omega (arith, ap length c.split_at.ensures.back, ap length f)

pub returns-clause-front : goal.returns-clause-front
returns-clause-front c =
    let h : c.self.inside.next < length c.self.inside.pieces.items = search (rules, arith) in
    let e0 = at_piece (λ p. p.items) c.self.inside.pieces.items c.self.inside.next c.index.result.now h in
    let e : drop c.self.inside.next (map (λ p. p.items) c.self.inside.pieces.items) ≡ c.as_slice.result.now ∷ drop (c.self.inside.next + 1) (map (λ p. p.items) c.self.inside.pieces.items) = cc in
    let f = finds _ _ _ c.self.inside.at c.args.self.now e (c.self.view_is ∙ c.skip_empty.ensures) in
    let b = c.split_at.ensures.back ∙ sym f in
    let a = c.copy_from_slice.ensures.after in
    take_copied c.min-count.result c.copy_from_slice.new.self (drop c.min-count.result c.args.into.now) (next_piece c.args.self.now)
    (omega (arith, length-take c.min-count.result c.args.into.now)) (a ∙ ap (λ t. take c.min-count.result t) b)
