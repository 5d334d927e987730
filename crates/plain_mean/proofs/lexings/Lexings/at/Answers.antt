use Rattle.std.proofs.Common.{ap, subst, sym, ◌∙◌}
use Rattle.std.specs.BTreeMap.{is_at}
use Rattle.std.specs.Cmp.Lexicographic.{slice_cmp}
use Rattle.std.specs.Map.{lookup}
use Rattle.std.specs.Ordering.{nat_cmp}
use Rattle.plain_mean.specs.Lexing.{IsLexed}
use Rattle.plain_mean.proofs.Lexed.{lexed_more}
use Rattle.plain_mean.proofs.lexings.Lexings.at.Goals as goal

pub invariant_of-self-2 : goal.invariant_of-self-2
invariant_of-self-2 c = lexed_more c.self.inside.docs.now c.self.inside.kept c.insert.new.self c.args.path.now c.in_ok-share.field-0 c.in_ok-lexed.lexed c.self.invariant
    (subst (λ t. IsLexed t c.in_ok-lexed.lexed) c.text_in.ensures.text c.in_ok-lexed.ensures) c.in_ok-share.ensures c.in_ok-insert.ensures.updates.0

pub invariant_of-self-in_err-insert : goal.invariant_of-self-in_err-insert
invariant_of-self-in_err-insert c path l found = c.self.invariant path l (ap (lookup (is_at (slice_cmp nat_cmp path))) (sym c.in_err-insert.ensures.err) ∙ found)
