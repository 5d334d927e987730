-- What was come to from a token, put in order, is its class.
use Rattle.std.proofs.Common.{◌≡◌, Bool, List, map, sym, ap, subst, ◌∙◌}
use Rattle.std.specs.List.{find}
use Rattle.std.specs.Prelude.{option_map}
use Rattle.tok_data.specs.declared.sources.TokId.{TokId}
use Rattle.scope_tables.specs.declared.entities.Occ.{Occ}
use Rattle.rename_core.specs.declared.mentions.Told.{Told}
use Rattle.rename_core.specs.declared.mentions.Denoted.{Denoted}
use Rattle.rename_core.specs.Classes.{IsClass}
use Rattle.rename_core.specs.Found.{in_order, meanings_told, name_told, pasted_from}
use Rattle.rename_core.specs.Mentions.{same_denoted, denoted_by, tolds, tokens_of}
use Rattle.scope_tables.specs.Occurrences.{same_tok}
use Rattle.rename_core.specs.Occurrences.{in_class, first_some}
use Rattle.rename_core.specs.Showing.{external, pasted, spelled, spelled_in, two}
use Rattle.rename_core.specs.Ties.Steps.{Seen}
use Rattle.rename_core.specs.Ties.Walked.{IsWalked}
use Rattle.rename_core.proofs.LinkLemmas.{keys, tokens, chain_reaches, reaches_chain}
use Rattle.rename_core.proofs.OrderLemmas.{has_same, ordered}
use Rattle.rename_core.proofs.PastedLemmas.{pasted_are}
use Rattle.rename_core.proofs.ShowLemmas.{names_are, two_are}

module _ (us : List (List Occ)) (t : TokId) (told : TokId → List Told) (mentioned : Denoted → List TokId) (tells : (q : TokId) → told q ≡ tolds 0 q us) (mentions : (d : Denoted) → mentioned d ≡ tokens_of 0 d us) where
  walked : (seen : Seen TokId Denoted) → IsWalked same_tok same_denoted (λ q. map denoted_by (told q)) mentioned t seen → IsWalked same_tok same_denoted (keys us) (tokens us) t seen
  walked seen w =
      subst (λ (g : Denoted → List TokId). IsWalked same_tok same_denoted (keys us) g t seen) (λ i d. mentions d i)
      (subst (λ (f : TokId → List Told). IsWalked same_tok same_denoted (λ q. map denoted_by (f q)) mentioned t seen) (λ i q. tells q i) w)

  pub class_is : (seen : Seen TokId Denoted) (class : List TokId) → class ≡ in_order seen.toks → IsWalked same_tok same_denoted (λ q. map denoted_by (told q)) mentioned t seen → IsClass us t class
  class_is seen class is w =
      let v = walked seen w in
      subst (IsClass us t) (sym is) (record {
        ordered = ordered seen.toks;
        members = λ s. (
          (λ h. chain_reaches us t s ((v.toks s).0 (sym (has_same seen.toks s) ∙ h))),
          (λ r. has_same seen.toks s ∙ (v.toks s).1 (reaches_chain us t s r)),
        );
      })

  pub pasted_is : (seen : Seen TokId Denoted) (class : List TokId) → class ≡ in_order seen.toks → IsWalked same_tok same_denoted (λ q. map denoted_by (told q)) mentioned t seen
      → pasted_from 0 seen.denoted us ≡ pasted us class
  unfolding pasted
  pasted_is seen class is w = pasted_are us t seen class (walked seen w) (λ s. ap (λ c. in_class c s) is ∙ has_same seen.toks s)

  pub two_is : (class : List TokId) → first_some (λ q. meanings_told q (told q)) class ≡ two us class
  unfolding two
  two_is class =
      ap (λ f. first_some f class)
      (λ i q. (ap (λ l. meanings_told q l) (tells q) ∙ ap (λ o. option_map (λ p. record { tok = q; first = p.0; second = p.1 }) o) (two_are 0 q us)) i)

  pub external_is : (class : List TokId) → first_some (λ q. name_told (told q)) class ≡ external us class
  unfolding external
  external_is class = ap (λ f. first_some f class) (λ i q. (ap name_told (tells q) ∙ names_are 0 q us) i)

pub spelled_is : (us : List (List Occ)) (has : TokId → Bool) (class : List TokId) → ((q : TokId) → has q ≡ spelled_in us q) → find has class ≡ spelled us class
unfolding spelled
spelled_is us has class same = ap (λ f. find f class) (λ i q. same q i)
