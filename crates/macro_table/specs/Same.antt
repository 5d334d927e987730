-- When two definitions of a name are the same (ISO C11 6.10.3p1, 6.10.3p2): both object-like, or both function-like with
-- the same parameters, and the same replacement list.
use Rattle.std.specs.Prelude.{◌≡◌, ℕ, Bool, false, List, [], ◌∷◌, map}
use Rattle.tok_data.specs.declared.tokens.PpKind.{PpKind}
use Rattle.tok_data.specs.declared.tokens.OutToken.{OutToken}
use Rattle.macro_table.specs.declared.definition.MacroDef.{MacroDef}

-- what counts of a token of a replacement list: all white space before it counts alike
pub record Spelled : Type 0 where
  pub kind : PpKind
  pub spelling : List ℕ
  pub spaced : Bool

-- white space before the first token is no part of the list (6.10.3p7)
abbrev pub first_token : OutToken → Spelled
first_token t = record { kind = t.kind; spelling = t.spelling; spaced = false }

abbrev pub inner_token : OutToken → Spelled
inner_token t = record { kind = t.kind; spelling = t.spelling; spaced = t.space_before }

abbrev pub replacement : List OutToken → List Spelled
replacement [] = []
replacement (t ∷ ts) = first_token t ∷ map inner_token ts

-- an object-like macro has no list of parameters
pub record IsSame (a b : MacroDef) : Type 0 where
  pub params : a.params ≡ b.params
  pub variadic : a.variadic ≡ b.variadic
  pub body : replacement a.body ≡ replacement b.body
