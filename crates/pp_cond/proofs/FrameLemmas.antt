-- Frames that are put together one after the other.
use Rattle.std.proofs.Common.{◌≡◌, ap, ◌∙◌, ℕ, Bool, true, false, List, [], ◌∷◌, Some, None, if◌then◌else◌}
use Rattle.pp_cond.specs.declared.numbers.Number.{Number}
use Rattle.pp_cond.specs.declared.frames.Frame.{Frame}
use Rattle.pp_cond.specs.Frames.{binds, completed, bound, unbound, reduced}

bound_by : (n : ℕ) → (fs gs : List Frame) → (v : Number) → (f g : Frame) → (b : Bool)
    → Some f ≡ (if b then Some g else None) → gs ≡ (if b then fs else g ∷ fs)
    → reduced n gs (completed f v) ≡ (if b then reduced n fs (completed g v) else (g ∷ fs, v))
bound_by n fs gs v f g true h e = let k : f ≡ g = cc in ap (λ x. reduced n x (completed f v)) e ∙ ap (λ x. reduced n fs (completed x v)) k
bound_by n fs gs v f g false h e = let k : Some f ≡ None = h in cc

pub bound_turns : (n : ℕ) → (fs gs : List Frame) → (v : Number) → (f : Frame)
    → Some f ≡ bound n fs → gs ≡ unbound n fs → reduced n gs (completed f v) ≡ reduced n fs v
bound_turns n [] gs v f h e = let k : Some f ≡ None = h in cc
bound_turns n (g ∷ fs) gs v f h e = bound_by n fs gs v f g (binds n g) h e
