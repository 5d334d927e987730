-- What tags with a body, and alignment specifiers, state in a list of declaration specifiers (ISO C11 6.7).
use Rattle.std.specs.Prelude.{ℕ, true, is_some, List, Option}
use Rattle.head_rules.specs.Enumerators.{Listed}
use Rattle.head_rules.specs.Fields as fields
use Rattle.head_rules.specs.Flexible.{closed}
use Rattle.head_rules.specs.declared.alignments.Alignment.{Alignment}
use Rattle.head_rules.specs.declared.parts.Specified.{Specified}
use Rattle.head_rules.specs.declared.parts.Specified.TheVariants as specified
use Rattle.type_data.specs.declared.judged.Judged.{Judged}
use Rattle.elab_state.specs.Contexts.{Context}
use Rattle.elab_state.specs.declared.made.Made.{Made}
use Rattle.elab_state.specs.Doings.{Doing, follow, gives}
use Rattle.elab_state.specs.Tokens.{spelling}
use Rattle.elab_core.specs.Aligning.{aligned, aligned_as}
use Rattle.elab_core.specs.declared.shapes.Gathered.{Gathered}
use Rattle.elab_core.specs.declared.shapes.Typed.{Typed}
use Rattle.elab_core.specs.declared.tag_bodies.OpenBody.{OpenBody}
use Rattle.elab_core.specs.Fielding as fielding
use Rattle.elab_core.specs.Specifiers.{with_other}
use Rattle.elab_core.specs.TagBodies.{ended, type_of}
use Rattle.elab_core.specs.Tags.{keyword_kind}

-- ---- alignment specifiers (6.7.5)

abbrev pub with_alignment : Alignment → Gathered → Gathered
with_alignment a g = record g { align = a }

abbrev pub aligns : Gathered → Alignment × Made → Gathered × Made
aligns g r = (with_alignment r.0 g, r.1)

-- `_Alignas ( constant-expression )`, whose keyword is the token k and whose expression begins with the token `begins`
abbrev pub with_size : ℕ → ℕ → Judged → Gathered → Made → Gathered × Made
with_size k begins j g m = aligns g (aligned k begins j g.align m)

-- `_Alignas ( type-name )`
abbrev pub with_size_of : Context → ℕ → Typed → Gathered → Made → Doing Gathered
with_size_of c k t g m = follow (aligned_as c k t g.align m) (λ a. gives (with_alignment a g))

-- ---- tags without a body (6.7.2.3), whose keyword is the token k

abbrev pub with_specified : Specified → Gathered → Gathered
with_specified s g = record g { specified = s }

abbrev pub with_mention : Context → ℕ → Option Typed → Gathered → Gathered
with_mention c k t g = with_specified (specified.Tag (keyword_kind (spelling c.tokens k)) true) (with_other t g)

-- ---- tags with a body, behind their lists

abbrev pub with_body : OpenBody → Gathered → Gathered
with_body o g = with_specified (specified.Tag o.kind (is_some o.name)) (with_other (type_of o) g)

abbrev pub behind_members : Context → OpenBody → fields.Gathered → Gathered → Made → Gathered × Made
behind_members c o s g m = (with_body o g, ended o (closed s.members) (fielding.ended c s m))

abbrev pub behind_enumerators : OpenBody → Listed → Gathered → Made → Gathered × Made
behind_enumerators o s g m = (with_body o g, ended o s.members m)
