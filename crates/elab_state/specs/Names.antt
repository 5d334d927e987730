-- What a name means (ISO C11 6.2.1p4), and what the token that spells it does.
use Rattle.std.specs.Prelude.{ℕ, Bool, false, List, Option, Some, None, bytes_eq, codes, if◌then◌else◌}
use Rattle.asking.specs.Asking.{asks_one}
use Rattle.scope_tables.specs.Scopes.{found, or_outside}
use Rattle.scope_tables.specs.declared.entities.Anchor.{Anchor}
use Rattle.scope_tables.specs.declared.entities.Entity.{Entity}
use Rattle.scope_tables.specs.declared.entities.Linkage.{Linkage}
use Rattle.scope_tables.specs.declared.entities.Linkage.TheVariants as linkage
use Rattle.scope_tables.specs.declared.entities.Occ.{Occ}
use Rattle.scope_tables.specs.declared.entities.Role.{Role}
use Rattle.scope_tables.specs.declared.entities.Role.TheVariants as role
use Rattle.type_data.specs.declared.members.Space.{Space}
use Rattle.elab_state.specs.declared.wants.Wanted.{Wanted}
use Rattle.elab_state.specs.Contexts.{Context, own_token}
use Rattle.elab_state.specs.Doings.{Doing, Made, gives, with_occ, with_used}
use Rattle.elab_state.specs.Tokens.{spelling}
use Rattle.elab_state.specs.Wants.{wanted}

-- in the scopes of the part, else in those round it
abbrev pub visible : Context → Space → List ℕ → Made → Option Entity
visible c space name m = or_outside (found space name m.names) (found space name c.outside)

abbrev pub or_asked : Option Entity → Wanted → Made → Doing (Option Entity)
or_asked (Some e) q m = gives (Some e) m
or_asked None q m = asks_one q (λ answer. gives answer m)

-- what no scope binds is what the items in front of this one declare
abbrev pub denoted : Context → Space → List ℕ → Made → Doing (Option Entity)
denoted c space name m = or_asked (visible c space name m) (wanted space name) m

abbrev pub occ : Context → ℕ → Anchor → Role → Occ
occ c n a r = record { tok = own_token c n; anchor = a; role = r }

-- 6.4.2.2: `__func__`, declared or used, is no occurrence
unfoldable pub occurs : Context → ℕ → Anchor → Role → Made → Made
occurs c n a r m =
    if bytes_eq (spelling c.tokens n) (codes "__func__") then m
    else with_occ (occ c n a r) m

-- 6.9p3: a use of what has internal linkage counts outside an operand of `sizeof` or `_Alignof`
abbrev pub counts : Bool → Linkage → Bool
counts counted linkage.None = false
counts counted linkage.Internal = counted
counts counted linkage.External = false

abbrev pub uses : Bool → Entity → Made → Made
uses counted e m = if counts counted e.linkage then with_used e.name m else m

-- the token n uses the entity
abbrev pub used : Context → Bool → ℕ → Entity → Made → Made
used c counted n e m = uses counted e (occurs c n e.anchor role.Uses m)
