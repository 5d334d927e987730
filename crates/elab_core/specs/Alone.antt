-- A declaration that is a tag alone (ISO C11 6.7.2.3p7), `struct S ;`: it declares the tag in its scope, whatever is visible round that.
use Rattle.std.specs.Prelude.{ℕ, if◌then◌else◌}
use Rattle.asking.specs.Asking.{Asking, Gives, and_then}
use Rattle.scope_tables.specs.declared.entities.Anchor.{Anchor}
use Rattle.scope_tables.specs.declared.entities.Role.TheVariants as role
use Rattle.type_data.specs.declared.members.TagKind.{TagKind}
use Rattle.elab_state.specs.Contexts.{Context}
use Rattle.elab_state.specs.declared.made.Made.{Made}
use Rattle.elab_state.specs.Names.{occurs}
use Rattle.elab_state.specs.Tokens.{spelling}
use Rattle.elab_state.specs.Wants.{wants}
use Rattle.elab_core.specs.declared.tags.Mention.{Mention}
use Rattle.elab_core.specs.declared.tags.Mention.TheVariants as mention
use Rattle.elab_core.specs.TagBodies.{before}
use Rattle.elab_core.specs.Tags.{keyword_kind, mention_of, new_tag, same_kind, tag_fault}

-- p2: each declaration of a tag in a scope has the same kind
abbrev pub checked : Context → TagKind → ℕ → TagKind → Made → Made
checked c k n had m = if same_kind had k then m else tag_fault 412 c n m

abbrev pub again : Context → TagKind → ℕ → Anchor → TagKind → Made → Made
again c k n a had m = occurs c n a role.Declares (checked c k n had m)

abbrev pub known : Context → TagKind → ℕ → Mention → Made → Made
known c k n mention.Nothing m = (new_tag c k n m).1
known c k n mention.Other m = m
known c k n (mention.Tag a id had) m = again c k n a had m

abbrev pub declared : Context → TagKind → ℕ → Made → Asking wants Made
declared c k n m = and_then (before c (spelling c.tokens n) m) (λ r. Gives (known c k n (mention_of r.0) r.1))

-- `keyword` is `struct` or `union`, and n the tag behind it
abbrev pub alone : Context → ℕ → ℕ → Made → Asking wants Made
alone c keyword n m = declared c (keyword_kind (spelling c.tokens keyword)) n m
