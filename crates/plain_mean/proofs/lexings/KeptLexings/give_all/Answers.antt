use Rattle.std.proofs.Common.{None, bytes_eq, if◌then◌else◌, refl, sym, ap, ◌∙◌}
use Rattle.std.specs.List.{list_any}
use Rattle.plain_mean.specs.Lexing.{lexing_at}
use Rattle.plain_mean.proofs.Lexed.{less_more, were_less, were_more, were_none}
use Rattle.plain_mean.proofs.lexings.KeptLexings.give_all.Goals as goal

pub paths-init : goal.paths-init
paths-init c = record { kept = λ q. refl; were = c.requires; given = were_none c.args.prior.now c.args.docs.now c.none-others.result c.none-others.ensures }

pub paths-preserved : goal.paths-preserved
paths-preserved c = record {
  kept = λ q. less_more q c.in-Some.path.now c.in-Some.behind.now (lexing_at c.paths.self q) (lexing_at c.give.new.self q) _ (c.in_ok-give.ensures.kept q)
      (ap (λ ps. if list_any (bytes_eq q) ps then None else lexing_at c.paths.self q) (sym c.in-Some.ensures.cases.0) ∙ c.paths.invariant.kept q);
  were = were_less c.args.prior.now c.args.docs.now c.paths.self c.give.new.self c.in-Some.path.now c.in_ok-give.ensures.kept c.paths.invariant.were;
  given = were_more c.args.prior.now c.args.docs.now c.paths.self c.paths.others c.give.new.others c.in-Some.path.now c.in_ok-give.ensures.given c.paths.invariant.were c.paths.invariant.given;
}
