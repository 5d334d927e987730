use Rattle.std.proofs.Common.{sym, ◌∙◌, subst}
use Rattle.c_parser.specs.TypeNames.{FoundParameters}
use Rattle.c_parser.proofs.NameLists.{names_found}
use Rattle.c_parser.proofs.ParameterLists.{names_same, names_missing}
use Rattle.c_parser.proofs.declarators.identifier_list.Goals as goal

pub returns-in-Ok : goal.returns-in-Ok
returns-in-Ok c =
    let only = names_same _ _ c.requires.kind _ _ c.in-Ok.ensures.only in
    record {
      found =
          subst
          (λ x. FoundParameters c.args.kinds.now c.args.at x c.in-Ok.end)
          (sym c.names.ensures)
          (names_found _ _ c.requires.kind _ _ c.in-Ok.ensures.found);
      only = λ ps end h e. let same = only ps end h e in (c.names.ensures ∙ same.0, same.1);
    }

pub returns-in-Err : goal.returns-in-Err
returns-in-Err c = record {
  found = tt;
  only = names_missing _ _ c.requires.kind _ c.in-Err.ensures.only;
}
