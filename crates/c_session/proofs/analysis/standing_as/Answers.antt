use Rattle.std.proofs.Common.{◌≡◌, ◌++◌, ℕ, List, IfSome, subst, ◌∙◌}
use Rattle.doc_texts.specs.Texts.{Texts}
use Rattle.plain_mean.specs.Lexing.{HasLexed}
use Rattle.plain_mean.specs.Lists.{shown_in}
use Rattle.plain_mean.specs.Shown.{shown_by}
use Rattle.unit_index.specs.Known.{Known}
use Rattle.c_session.specs.Units.{WereCrossed, all_reads, crossed, cross_faults, own_faults}
use Rattle.c_session.proofs.analysis.standing_as.Goals as goal

pub returns-clause-lexed : goal.returns-clause-lexed
returns-clause-lexed c = subst (λ (t : Texts). HasLexed t c.into_kept.result) c.in_ok-shown.ensures.same c.into_kept.ensures

pub returns-clause-across : goal.returns-clause-across
returns-clause-across c = subst (λ (us : List Known). IfSome c.args.kept (λ k. WereCrossed k.items c.args.standing.news us) → c.in_ok-across.across.items ≡ crossed us) c.as_slice-made.ensures.value c.in_ok-across.ensures

pub returns-clause-shown : goal.returns-clause-shown
returns-clause-shown c =
    subst (λ (us : List Known). IfSome c.args.kept (λ k. WereCrossed k.items c.args.standing.news us) → (path : List ℕ) → shown_in c.in_ok-shown.shown path ≡ shown_by c.args.lexings (own_faults us ++ cross_faults us) (all_reads us) path)
    c.as_slice-made.ensures.value
    (λ stays. c.in_ok-shown.ensures.shown (c.as_slice.ensures.value ∙ c.in_ok-across.ensures stays))
