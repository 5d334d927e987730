-- Which token an offset denotes (LSP 3.17, Position): an identifier, keywords and the names of directives among them (ISO C11 6.4).
use Rattle.std.specs.Prelude.{ℕ, ◌+◌, ◌≤◌, ◌<◌, Bool, true, false, ◌==◌, ◌&&◌, nat_lt, nat_le, List, [], ◌∷◌, Option, Some, None, if◌then◌else◌}
use Rattle.std.specs.List.{slice_get}
use Rattle.tok_data.specs.declared.tokens.PpKind.{PpKind}
use Rattle.tok_data.specs.declared.tokens.PpKind.TheVariants as kind
use Rattle.tok_data.specs.declared.tokens.PpToken.{PpToken}

abbrev pub is_identifier : PpKind → Bool
is_identifier kind.Ident = true
is_identifier kind.Number = false
is_identifier kind.Char = false
is_identifier kind.Str = false
is_identifier kind.Header = false
is_identifier kind.Punct = false
is_identifier kind.Stray = false

abbrev pub holds : ℕ → ℕ × ℕ → Bool
holds offset place = nat_le place.0 offset && nat_lt offset place.1

abbrev pub ends : ℕ → ℕ × ℕ → Bool
ends offset place = place.1 == offset

-- the range of the token at a place, where it is an identifier
abbrev pub if_identifier : Option PpToken → Option (ℕ × ℕ) → Option (ℕ × ℕ)
if_identifier None p = None
if_identifier (Some t) None = None
if_identifier (Some t) (Some p) = if is_identifier t.kind then Some p else None

abbrev pub identifier_at : List PpToken → List (ℕ × ℕ) → ℕ → Option (ℕ × ℕ)
identifier_at ts ps i = if_identifier (slice_get ts i) (slice_get ps i)

abbrev pub passes : (ℕ × ℕ → Bool) → Option (ℕ × ℕ) → Bool
passes test None = false
passes test (Some p) = test p

abbrev pub begins : ℕ → ℕ × ℕ → Bool
begins offset place = nat_le place.0 offset

-- the number of the first identifier whose range passes, the first token's being n
abbrev pub first_identifier : (ℕ × ℕ → Bool) → ℕ → List PpToken → List (ℕ × ℕ) → Option ℕ
first_identifier test n (t ∷ ts) (p ∷ ps) = if is_identifier t.kind && test p then Some n else first_identifier test (n + 1) ts ps
first_identifier test n ts ps = None

abbrev pub or_else : Option ℕ → Option ℕ → Option ℕ
or_else (Some n) other = Some n
or_else None other = other

-- the identifier whose range holds it, else the one that ends at it
unfoldable pub under : List PpToken → List (ℕ × ℕ) → ℕ → Option ℕ
under ts ps offset = or_else (first_identifier (holds offset) 0 ts ps) (first_identifier (ends offset) 0 ts ps)

-- ranges that have something in them and stand one behind the other, from a place on
abbrev pub AreApart : ℕ → List (ℕ × ℕ) → Type 0
AreApart from [] = Unit
AreApart from (p ∷ ps) = (from ≤ p.0) × (p.0 < p.1) × AreApart p.1 ps
