use Rattle.std.proofs.Common.{rules, ◌≡◌, ◌∷◌, [], ◌++◌, sym, ◌∙◌}
use Rattle.tree_data.specs.Seen.{behind_of}
use Rattle.elab_core.proofs.Lasts.{last_part_is}
use Rattle.elab_core.proofs.ends.suffixes_end.Goals as goal

pub returns-in-Some : goal.returns-in-Some
returns-in-Some c =
    let is : c.args.suffixes.now.items ≡ c.in-Some.field-0-1.now ++ c.in-Some.suffix.now ∷ [] = search rules in
    c.suffix_ends.ensures ∙ sym (last_part_is behind_of c.args.suffixes.now.items c.in-Some.field-0-1.now c.in-Some.suffix.now is)
