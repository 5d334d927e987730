-- The label of an item: the name that it seems to declare first.
use Rattle.std.specs.Prelude.{ℕ, Bool, true, false, not, ◌&&◌, List, [], ◌∷◌, if◌then◌else◌}
use Rattle.tok_data.specs.declared.tokens.PpKind.{PpKind}
use Rattle.tok_data.specs.declared.tokens.PpKind.TheVariants.{Ident}
use Rattle.tok_data.specs.declared.tokens.OutToken.{OutToken}
use Rattle.tok_data.specs.Keywords.{is_keyword}
use Rattle.item_cut.specs.Marks.{is_name_end}

abbrev pub is_ident : PpKind → Bool
is_ident Ident = true
is_ident _ = false

unfoldable pub is_name : OutToken → Bool
is_name t = is_ident t.kind && not (is_keyword t.spelling)

abbrev pub begins_end : List OutToken → Bool
begins_end [] = false
begins_end (t ∷ ts) = is_name_end t.spelling

-- the first identifier, no keyword, before `(`, `[`, `=`, `,`, `;` or `{`, or the empty text
abbrev pub label : List OutToken → List ℕ
label [] = []
label (t ∷ ts) = if is_name t && begins_end ts then t.spelling else label ts
