-- The table of bindings as a list of scopes, innermost first: a mark says where the bindings of a scope begin.
use Rattle.std.specs.Prelude.{◌≡◌, ◌≤◌, List, [], ◌∷◌, length, take, drop, None}
use Rattle.scope_tables.specs.Levels.{Scope}
use Rattle.scope_tables.specs.Scopes.{bound}
use Rattle.scope_tables.specs.declared.bindings.Binding.{Binding}
use Rattle.scope_tables.specs.declared.scopes.Mark.{Mark}

abbrev pub cut_at : List Mark → List Binding → List Scope
cut_at [] bs = []
cut_at (m ∷ ms) bs = record { kind = m.kind; bindings = drop m.start bs } ∷ cut_at ms (take m.start bs)

-- in a scope each name is bound once
abbrev pub IsOnce : List Binding → Type 0
IsOnce [] = Unit
IsOnce (b ∷ bs) = (bound b.space b.name bs ≡ None) × IsOnce bs

abbrev pub AreMarks : List Mark → List Binding → Type 0
AreMarks [] bs = bs ≡ []
AreMarks (m ∷ ms) bs = (m.start ≤ length bs) × IsOnce (drop m.start bs) × AreMarks ms (take m.start bs)
