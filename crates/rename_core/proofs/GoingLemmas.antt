-- The walk over what units say, step by step.
use Rattle.std.proofs.Common.{◌≡◌, ℕ, ◌+◌, List, [], map, Some, None, sym, ap, subst, ◌∙◌}
use Rattle.std.specs.List.{slice_get}
use Rattle.tok_data.specs.declared.sources.TokId.{TokId}
use Rattle.rename_core.specs.declared.mentions.Told.{Told}
use Rattle.rename_core.specs.declared.mentions.Denoted.{Denoted}
use Rattle.rename_core.specs.Mentions.{same_denoted, denoted_by}
use Rattle.scope_tables.specs.Occurrences.{same_tok}
use Rattle.rename_core.specs.Ties.Steps.{Seen, steps}
use Rattle.rename_core.specs.Ties.Walked.{IsWalked}
use Rattle.rename_core.proofs.MentionLemmas.{tok_exact, denoted_exact}
use Rattle.rename_core.proofs.WalkLemmas.{Going, going_begins, going_turns, going_ends}

module _ (told : TokId → List Told) (mentioned : Denoted → List TokId) (t : TokId) where
  abbrev pub GoingOn : ℕ → Seen TokId Denoted → Type 0
  GoingOn at seen = Going same_tok tok_exact same_denoted denoted_exact (λ q. map denoted_by (told q)) mentioned t at seen

  pub begins_so : (seen now : Seen TokId Denoted) (list : List Told) → seen ≡ record { toks = []; denoted = [] } → list ≡ told t
      → now ≡ steps same_tok same_denoted mentioned seen (map denoted_by list) → GoingOn 0 now
  begins_so seen now list none is made =
      subst (λ w. GoingOn 0 w) (sym (made ∙ ap (λ l. steps same_tok same_denoted mentioned seen (map denoted_by l)) is))
      (going_begins same_tok tok_exact same_denoted denoted_exact (λ q. map denoted_by (told q)) mentioned t seen none)

  pub turns_so : (at : ℕ) (seen now : Seen TokId Denoted) (x : TokId) (list : List Told) → GoingOn at seen → slice_get seen.toks at ≡ Some x → list ≡ told x
      → now ≡ steps same_tok same_denoted mentioned seen (map denoted_by list) → GoingOn (at + 1) now
  turns_so at seen now x list was here is made =
      subst (λ w. GoingOn (at + 1) w) (sym (made ∙ ap (λ l. steps same_tok same_denoted mentioned seen (map denoted_by l)) is))
      (going_turns same_tok tok_exact same_denoted denoted_exact (λ q. map denoted_by (told q)) mentioned t at seen x was here)

  pub ends_so : (at : ℕ) (seen : Seen TokId Denoted) → GoingOn at seen → slice_get seen.toks at ≡ None
      → IsWalked same_tok same_denoted (λ q. map denoted_by (told q)) mentioned t seen
  ends_so at seen was none = going_ends same_tok tok_exact same_denoted denoted_exact (λ q. map denoted_by (told q)) mentioned t at seen was none
