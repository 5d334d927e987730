-- What is told of a rename, by the steps that find it.
use Rattle.std.proofs.Common.{◌≡◌, ℕ, Bool, true, false, List, ◌∷◌, [], ◌++◌, append-nil, append_assoc, map, Some, sym, ap, ◌∙◌, if◌then◌else◌}
use Rattle.std.proofs.lemmas.List.{map-append}
use denote.Ref.{Bor}
use Rattle.doc_texts.specs.Texts.{Texts}
use Rattle.plain_mean.specs.Given.{text_in}
use Rattle.c_session.specs.Classed.{class_in}
use Rattle.rename_core.specs.Refusals.{can_be_renamed}
use Rattle.scope_tables.specs.declared.entities.Occ.{Occ}
use Rattle.serde_json.specs.Data.{Data, null}
use Rattle.text_lines.specs.declared.encoding.Encoding.{Encoding}
use Rattle.text_lines.specs.declared.pos.Pos.{Pos}
use Rattle.tok_data.specs.declared.sources.TokId.{TokId}
use Rattle.unit_index.specs.Known.{Known}
use Rattle.unit_index.specs.Occurrences.{occs_of}
use Rattle.c_session.specs.Places.{range_in}
use Rattle.c_session.specs.Positions.{token_at}
use Rattle.c_session.specs.Renamable.{of_token, renamable, shown, spelling_in}

-- ---- occurrences that are lent

pub lends_turn : (rest behind : List (List Occ)) (list : List Occ) (old new : List (Bor (List Occ))) (one : Bor (List Occ)) (all : List (List Occ)) → rest ≡ list ∷ behind → new ≡ old ++ one ∷ [] →
    one.now ≡ list → map (λ o. o.now) old ++ rest ≡ all → map (λ o. o.now) new ++ behind ≡ all
lends_turn rest behind list old new one all first more lent is =
    ap (λ os. map (λ o. o.now) os ++ behind) more
    ∙ ap (λ os. os ++ behind) (map-append (λ o. o.now) old (one ∷ []))
    ∙ append_assoc (map (λ o. o.now) old) (one.now ∷ []) behind
    ∙ ap (λ o. map (λ o. o.now) old ++ o ∷ behind) lent
    ∙ ap (λ ls. map (λ o. o.now) old ++ ls) (sym first) ∙ is

pub lends_end : (rest : List (List Occ)) (now : List (Bor (List Occ))) (all : List (List Occ)) → rest ≡ [] → map (λ o. o.now) now ++ rest ≡ all → map (λ o. o.now) now ≡ all
lends_end rest now all none is = sym (append-nil (map (λ o. o.now) now)) ∙ ap (λ ls. map (λ o. o.now) now ++ ls) (sym none) ∙ is

-- ---- whether a name may be renamed

module _ (us : List Known) (texts : Texts) (encoding : Encoding) (path : List ℕ) (pos : Pos) where
  module _ (tok : TokId) (found : Some tok ≡ token_at texts encoding path pos) where
    abbrev by_class : Bool → Data
    by_class b = if b then shown (spelling_in (text_in texts path) tok.at) (range_in (text_in texts path) encoding tok.at) else null

    pub renamable_told : (b : Bool) → b ≡ can_be_renamed (class_in (map occs_of us) tok) → true ≡ b → shown (spelling_in (text_in texts path) tok.at) (range_in (text_in texts path) encoding tok.at) ≡ renamable us texts encoding path pos
    unfolding renamable
    renamable_told b can is = ap by_class (is ∙ can) ∙ ap (of_token us texts encoding path) found

    pub not_renamable : (b : Bool) → b ≡ can_be_renamed (class_in (map occs_of us) tok) → false ≡ b → null ≡ renamable us texts encoding path pos
    unfolding renamable
    not_renamable b can is = ap by_class (is ∙ can) ∙ ap (of_token us texts encoding path) found
