use Rattle.tree_data.specs.Heads.{declared_of}
use Rattle.tree_data.specs.Seen.{specs_of}
use Rattle.std.proofs.Common.{◌∙◌, ◌≤◌, sym, ap, subst}
use Rattle.c_parser.specs.Heads.{past_head, past_all}
use Rattle.c_parser.specs.HeadsFound.{FoundHead}
use Rattle.c_parser.proofs.HeadRanges.{declared_past}
use Rattle.c_parser.proofs.HeadWords.{from_length}
use Rattle.c_parser.proofs.HeadWholes.{OnlyHead, front_missing, declared_missing, declares_found, declares_same}
use Rattle.c_parser.proofs.heads.declaration.Goals as goal

pub returns-in-Err-clause-only : goal.returns-in-Err-clause-only
returns-in-Err-clause-only c = front_missing _ _ c.requires.other _ c.in-Err.ensures.only

pub declarators_in-requires-clause-inside : goal.declarators_in-requires-clause-inside
declarators_in-requires-clause-inside c =
    subst (λ n. c.in-Ok.found.2 ≤ n) (from_length c.args.scope c.args.at) c.in-Ok.ensures.found.inside

pub returns-in-Err-declarators_in-clause-only : goal.returns-in-Err-declarators_in-clause-only
returns-in-Err-declarators_in-clause-only c =
    declared_missing _ _ c.requires.other _ _ c.in-Ok.ensures.only _ c.in-Ok.ensures.told _ c.in-Err-declarators_in.ensures.only

pub returns-in-Ok-past : goal.returns-in-Ok-past
returns-in-Ok-past c =
    let ss = specs_of c.in-Ok.found.0 in
    let ds = declared_of c.in-Ok-declarators_in.found.0.items in
    let made = declares_found _ _ ss _ c.in-Ok.ensures.found _ c.in-Ok.ensures.told ds _ _ c.in-Ok-declarators_in.ensures.found in
    record {
      found = subst (λ h. FoundHead c.args.scope c.args.at h c.in-Ok-declarators_in.found.3) (sym c.new.ensures) made;
      past =
          c.in-Ok-past.ensures
          ∙ declared_past c.args.scope c.args.at ss ds c.in-Ok-declarators_in.found.1 c.in-Ok-declarators_in.found.3 made.reads
          c.in-Ok-declarators_in.found.2
          (c.in-Ok-declarators_in.ensures.past ∙ ap (λ s. past_all c.args.scope s ds) c.in-Ok.ensures.told)
          ∙ ap (past_head c.args.scope) (sym c.new.ensures);
      only =
          subst
          (λ h. OnlyHead c.args.scope c.args.at h c.in-Ok-declarators_in.found.3)
          (sym c.new.ensures)
          (declares_same _ _ c.requires.other _ _ c.in-Ok.ensures.only _ c.in-Ok.ensures.told _ _ _ c.in-Ok-declarators_in.ensures.only);
    }
