-- One enumerator more (ISO C11 6.7.2.2): its scope begins behind it (6.2.1p7).
use Rattle.std.specs.Prelude.{ℕ, Option, Some, None}
use Rattle.head_rules.specs.declared.naming.Constant.{Constant}
use Rattle.head_rules.specs.declared.naming.Constant.TheVariants as constant
use Rattle.head_rules.specs.declared.outcomes.Enumerated.{Enumerated}
use Rattle.head_rules.specs.Enumerators.{Listed, enumerator}
use Rattle.scope_tables.specs.declared.entities.Entity.{Entity}
use Rattle.scope_tables.specs.declared.entities.Role.TheVariants as role
use Rattle.type_data.specs.declared.judged.Judged.{Judged}
use Rattle.elab_state.specs.Contexts.{Context}
use Rattle.elab_state.specs.declared.made.Made.{Made}
use Rattle.elab_state.specs.Tokens.{spelling}
use Rattle.elab_core.specs.Constants.{needed}
use Rattle.elab_core.specs.Notes.{constant_of, marked, name_token, noted_by_name}
use Rattle.elab_core.specs.Parameters.{anchor_here, declared_by}

-- where the scope's earlier one stays, its token denotes that
abbrev pub denoting : Context → ℕ → Option Entity → Made → Made
denoting c n (Some e) m = declared_by c n role.Defines e m
denoting c n None m = marked c n role.Defines (anchor_here (spelling c.tokens n) m) m

abbrev pub told : Context → ℕ → Enumerated × Listed → Made → Listed × Made
told c n r m = (r.1, denoting c n r.0.entity (noted_by_name c r.0.fault m))

-- the token n, with what its expression comes to
abbrev pub enumerated : Context → ℕ → Constant → Listed → Made → Listed × Made
enumerated c n v s m = told c n (enumerator m.names (name_token c n) v s) m

-- without a value
abbrev pub counted : Context → ℕ → Listed → Made → Listed × Made
counted c n s m = enumerated c n constant.Absent s m

-- with one, whose first token is `begins`
abbrev pub given : Context → ℕ → ℕ → Judged → Listed → Made → Listed × Made
given c n begins j s m = enumerated c n (constant_of (needed begins j m).0) s (needed begins j m).1
