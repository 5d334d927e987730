use Rattle.std.proofs.Common.{sym, subst, drop}
use Rattle.stmt_checks.proofs.units.keep.Goals as goal
use Rattle.stmt_checks.specs.Firm.{IsKept}

pub invariant_of-kept : goal.invariant_of-kept
invariant_of-kept c =
    let noted = c.args.noted in
    subst (λ hs. IsKept noted.parts.items hs c.in-Ok.own_bodies.items noted.read) (sym c.in-Ok.ensures.own_heads)
    (subst (λ bs. IsKept noted.parts.items (drop c.args.heads_at c.args.heads.now.items) bs noted.read) (sym c.in-Ok.ensures.own_bodies) c.requires.kept)
