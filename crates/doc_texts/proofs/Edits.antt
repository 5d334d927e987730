-- One change of a text, and those that follow it.
use Rattle.std.proofs.Common.{◌≡◌, ℕ, ◌<◌, true, false, cond, List, ◌∷◌, length, Option, Some, None, Ok, Err, nat_lt, refl, ap, ◌∙◌, arith}
use Rattle.std.proofs.lemmas.Bool.{le-ltb, lt-ltb}
use Rattle.text_lines.specs.declared.edit.Change.{Change}
use Rattle.text_lines.specs.declared.encoding.Encoding.{Encoding}
use Rattle.text_lines.specs.declared.pos.Pos.{Pos}
use Rattle.text_lines.specs.Edits.{edited, EndsBefore, IsReversed}
use Rattle.doc_texts.specs.declared.error.DocError.TheVariants.{Reversed, TooLong}
use Rattle.doc_texts.specs.Docs.{ends_before, all_edited}
use Rattle.doc_texts.specs.Limits.{longest_text}

pub is_lt : (a b : ℕ) → a < b → nat_lt a b ≡ true
is_lt a b h = lt-ltb a b h

pub not_lt : (a b : ℕ) → ¬ (a < b) → nat_lt a b ≡ false
not_lt a b h = le-ltb a b (omega (arith, h))

pub ok_no_err : {X E : Type 0} (x : X) (e : E) → Ok x ≡ Err e → ⊥
ok_no_err x e is = cc is

is_before : (text : List ℕ) (enc : Encoding) (range : Option (Pos × Pos)) → EndsBefore text enc range → ends_before text enc range ≡ true
is_before text enc None h = absurd h
is_before text enc (Some range) h = is_lt _ _ h

not_before : (text : List ℕ) (enc : Encoding) (range : Option (Pos × Pos)) → ¬ (EndsBefore text enc range) → ends_before text enc range ≡ false
not_before text enc None h = refl
not_before text enc (Some range) h = not_lt _ _ h

module _ (text : List ℕ) (change : Change) (enc : Encoding) (rest : List Change) where
  pub made_reversed : IsReversed text change enc → all_edited text (change ∷ rest) enc ≡ Err Reversed
  unfolding all_edited
  made_reversed h = ap (λ b. cond b (Err Reversed) (cond (nat_lt longest_text (length (edited text change enc))) (Err TooLong) (all_edited (edited text change enc) rest enc))) (is_before text enc change.range h)

  pub made_long : ¬ (IsReversed text change enc) → longest_text < length (edited text change enc) → all_edited text (change ∷ rest) enc ≡ Err TooLong
  unfolding all_edited
  made_long h long =
      ap (λ b. cond b (Err Reversed) (cond (nat_lt longest_text (length (edited text change enc))) (Err TooLong) (all_edited (edited text change enc) rest enc))) (not_before text enc change.range h)
      ∙ ap (λ b. cond b (Err TooLong) (all_edited (edited text change enc) rest enc)) (is_lt _ _ long)

  pub made_well : ¬ (IsReversed text change enc) → ¬ (longest_text < length (edited text change enc)) → all_edited text (change ∷ rest) enc ≡ all_edited (edited text change enc) rest enc
  unfolding all_edited
  made_well h short =
      ap (λ b. cond b (Err Reversed) (cond (nat_lt longest_text (length (edited text change enc))) (Err TooLong) (all_edited (edited text change enc) rest enc))) (not_before text enc change.range h)
      ∙ ap (λ b. cond b (Err TooLong) (all_edited (edited text change enc) rest enc)) (not_lt _ _ short)
