-- Where texts are entered, and directives in a group that is taken.
use Rattle.std.proofs.Common.{◌≡◌, ◌<◌, refl, ap, arith, ℕ, zero, suc, ◌-◌, List, Bool, true, Some, is_some, cond}
use Rattle.tok_data.specs.declared.tokens.OutToken.{OutToken}
use Rattle.asking.specs.Asking.{Gives, and_then}
use Rattle.include_units.specs.declared.inclusion.Lead.TheVariants.{On}
use Rattle.include_units.specs.Texts.{Text}
use Rattle.include_units.specs.Conditionals.{Open, is_taken}
use Rattle.include_units.specs.Made.{Made}
use Rattle.include_units.specs.Units.{walked, within_group, other_line, control_line, text_tokens, reader_at, is_deep}

pub deep_is : (folders : List (List ℕ)) (depth : ℕ) → is_deep depth ≡ is_some (reader_at folders depth)
deep_is folders zero = refl
deep_is folders (suc depth) = refl

pub reader_some : (folders : List (List ℕ)) (depth : ℕ) → 0 < depth → reader_at folders depth ≡ Some (text_tokens folders (depth - 1))
reader_some folders zero h = absurd (omega arith)
reader_some folders (suc depth) h = let e : depth ≡ suc depth - 1 = omega arith in ap (λ d. Some (text_tokens folders d)) e

-- a directive that is no part of a conditional, in a group that is taken
pub other_taken : (folders : List (List ℕ)) (deep : Bool) (text : Text) (name : OutToken) (ts : List OutToken) (os : List Open) (m : Made) → is_taken os ≡ true →
    other_line folders deep text name ts os m ≡ and_then (control_line folders deep text name ts m) (λ l. Gives (within_group os l))
other_taken folders deep text name ts os m e =
    ap (λ b. cond b (and_then (control_line folders deep text name ts m) (λ l. Gives (within_group os l))) (Gives (walked On os m))) e
