-- What a part of an item asks first, as one list: what each of its identifiers denotes, in the order of first tokens (ISO C11 6.2.3).
use Rattle.std.specs.Prelude.{ℕ, Bool, true, false, ◌||◌, List, [], ◌∷◌, bytes_eq, codes, is_some, if◌then◌else◌}
use Rattle.asking.specs.LookUps.{LookUp}
use Rattle.indexmap.specs.IndexSet.{insert_key}
use Rattle.tok_data.specs.declared.tokens.OutToken.{OutToken}
use Rattle.type_data.specs.declared.members.Space.{Space}
use Rattle.type_data.specs.declared.members.Space.TheVariants as space
use Rattle.elab_state.specs.declared.wants.Wanted.{Wanted}
use Rattle.elab_state.specs.Same.{same_wanted}
use Rattle.elab_state.specs.Tokens.{is_identifier}
use Rattle.elab_state.specs.Wants.{wanted, wants}

-- behind `struct`, `union` and `enum` an identifier is a tag
unfoldable pub begins_tag : List ℕ → Bool
begins_tag text = bytes_eq text (codes "struct") || (bytes_eq text (codes "union") || bytes_eq text (codes "enum"))

abbrev pub space_behind : Bool → Space
space_behind tag = if tag then space.Tags else space.Ordinary

abbrev pub wanted_by : Bool → OutToken → Wanted
wanted_by tag t = wanted (space_behind tag) t.spelling

-- `tag` says that what is in front begins a tag
abbrev pub identifiers : Bool → List OutToken → List Wanted
identifiers tag [] = []
identifiers tag (t ∷ ts) = if is_identifier t then wanted_by tag t ∷ identifiers false ts else identifiers (begins_tag t.spelling) ts

-- questions without an answer, one after another
abbrev pub noted : LookUp wants → Wanted → List Wanted → List Wanted
noted look q asked = if is_some (look q) then asked else insert_key same_wanted asked q

abbrev pub all_noted : LookUp wants → List Wanted → List Wanted → List Wanted
all_noted look asked [] = asked
all_noted look asked (q ∷ more) = all_noted look (noted look q asked) more
