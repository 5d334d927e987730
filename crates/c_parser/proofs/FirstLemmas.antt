-- The first token that spells a text, as a map keeps it.
use Rattle.std.proofs.Common.{◌≡◌, refl, ap, sym, ◌∙◌, ℕ, List, Option, Some, None, is_none, Bool, true, false, true≢false, ◌&&◌, bytes_eq, cond}
use Rattle.std.proofs.lemmas.Slice.Eq.{bytes_eq-Decides}
use Rattle.c_parser.specs.Words.{first_or}

kept_by : (found : Option ℕ) → (b : Bool) → (n : ℕ) → (b ≡ true → found ≡ None → ⊥) → first_or found b n ≡ found
kept_by (Some m) b n h = refl
kept_by None false n h = refl
kept_by None true n h = absurd (h refl refl)

pub kept : (g : List ℕ → Option ℕ) → (text : List ℕ) → (g text ≡ None → ⊥) → (n : ℕ) → (t : List ℕ) → g t ≡ first_or (g t) (bytes_eq text t) n
kept g text u n t = sym (kept_by (g t) (bytes_eq text t) n (λ h e. u (ap g ((bytes_eq-Decides text t).0 h) ∙ e)))

put_by : (found : Option ℕ) → (b : Bool) → (n : ℕ) → (b ≡ true → found ≡ None) → cond b (Some n) found ≡ first_or found b n
put_by None true n h = refl
put_by None false n h = refl
put_by (Some m) false n h = refl
put_by (Some m) true n h = absurd (true≢false (sym (ap is_none (h refl))))

pub put : (g : List ℕ → Option ℕ) → (text : List ℕ) → g text ≡ None → (n : ℕ) → (t : List ℕ) → cond (bytes_eq text t) (Some n) (g t) ≡ first_or (g t) (bytes_eq text t) n
put g text e n t = put_by (g t) (bytes_eq text t) n (λ b. ap g (sym ((bytes_eq-Decides text t).0 b)) ∙ e)

-- a token that is no word spells no text
pub passed : (found : Option ℕ) → (w b : Bool) → w ≡ false → (n : ℕ) → found ≡ first_or found (w && b) n
passed (Some m) w b h n = refl
passed None false b h n = refl
passed None true b h n = absurd (true≢false h)

pub spelled : (found : Option ℕ) → (w b : Bool) → w ≡ true → (n : ℕ) → first_or found b n ≡ first_or found (w && b) n
spelled found true b h n = refl
spelled found false b h n = absurd (true≢false (sym h))
