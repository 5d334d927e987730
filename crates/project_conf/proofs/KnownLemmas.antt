-- What is kept of what texts mean, with one text more.
use Rattle.std.proofs.Common.{◌≡◌, ℕ, List, Bool, true, false, cond, Option, Some, None, bytes_eq, Result, Ok, Err, refl, sym, ap, subst, ◌∙◌}
use Rattle.std.specs.HashMap.{HashMap, Updates, IsUnchanged, get_by_text}
use Rattle.std.specs.Map.{lookup}
use Rattle.std.specs.Prelude.{IfSome, OnOk, OnErr, String, string_bytes}
use Rattle.std.specs.String.{string_eq}
use Rattle.std.proofs.lemmas.Map.Text.{hash_map_updates_text}
use Rattle.project_conf.specs.Known.{Knows}
use Rattle.std.proofs.lemmas.Slice.Eq.{bytes_eq-Decides}

module _ {X : Type 0} (meaning : List ℕ → Option X) (name text : List ℕ) (value : X) (means : meaning name ≡ Some value) where
  by : (b : Bool) → bytes_eq name text ≡ b → (before : Option X) → IfSome before (λ x. meaning text ≡ Some x) → IfSome (cond b (Some value) before) (λ x. meaning text ≡ Some x)
  by true same before h = sym (ap meaning ((bytes_eq-Decides name text).0 same)) ∙ means
  by false other before h = h

  pub known_more : (before after : Option X) → IfSome before (λ x. meaning text ≡ Some x) → after ≡ cond (bytes_eq name text) (Some value) before → IfSome after (λ x. meaning text ≡ Some x)
  known_more before after h e = subst (λ o. IfSome o (λ x. meaning text ≡ Some x)) (sym e) (by (bytes_eq name text) refl before h)

-- what is kept at a text is what it means
pub kept_means : {X : Type 0} (meaning : List ℕ → Option X) (text : List ℕ) (o : Option X) (x y : X) → IfSome o (λ z. meaning text ≡ Some z) → Some x ≡ o → y ≡ x → Some y ≡ meaning text
kept_means meaning text o x y h e k = ap Some k ∙ sym (subst (λ p. IfSome p (λ z. meaning text ≡ Some z)) (sym e) h)

-- what an insertion leaves
pub known_kept : {X Y S A E : Type 0} (meaning : List ℕ → Option X) (m n : HashMap (String Y) X S) (key : String Y) (name : List ℕ) (value : X) (r : Result A E)
    → OnOk r (Updates string_eq m n key (Some value)) → OnErr r (IsUnchanged m n) → string_bytes key ≡ name → meaning name ≡ Some value → Knows meaning m → Knows meaning n
known_kept meaning m n key name value (Ok a) updates unchanged same means h = λ text.
    known_more meaning (string_bytes key) text value (ap meaning same ∙ means) (get_by_text m text) (get_by_text n text) (h text) (hash_map_updates_text (string_bytes key) m n (Some value) updates text)
known_kept meaning m n key name value (Err e) updates unchanged same means h = λ text.
    subst (λ es. IfSome (lookup (λ k. bytes_eq text (string_bytes k)) es) (λ x. meaning text ≡ Some x)) (sym unchanged) (h text)
