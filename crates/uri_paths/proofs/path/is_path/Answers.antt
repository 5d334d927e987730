use Rattle.std.proofs.Common.{sym, ◌∙◌, lit<, Some, None}
use Rattle.std.proofs.lemmas.Str.Pattern.{strip_prefix_char}
use Rattle.uri_paths.proofs.Spelled.{is_path_behind, is_path_none}
use Rattle.uri_paths.proofs.path.is_path.Goals as goal

pub returns-in-Some : goal.returns-in-Some
returns-in-Some c =
    let begins = strip_prefix_char 47 c.args.text.now (Some c.in-Some.behind) c.in-Some.ensures.cases (lit< tt) in
    c.are_names.ensures ∙ is_path_behind c.args.text.now c.in-Some.behind.now begins (sym c.eq.ensures ∙ c.if-eq.false)

pub returns-in-None : goal.returns-in-None
returns-in-None c =
    let none = strip_prefix_char 47 c.args.text.now None c.in-None.ensures.cases (lit< tt) in
    is_path_none c.args.text.now none
