use Rattle.std.proofs.Common.{rules, ◌∙◌, ◌+◌, ◌≡◌, List, [], drop, sym, ap, arith}
use Rattle.std.proofs.lemmas.Option.{slice_get_within}
use Rattle.std.specs.Prelude.{None, option_map}
use Rattle.macro_expand.specs.declared.types.Marked.{Marked}
use Rattle.macro_expand.specs.Ties.Looks.{seen}
use Rattle.macro_expand.specs.Ties.Reading.{reads, turned_to}
use Rattle.macro_expand.proofs.ListLemmas.{drop_at, drop_none}
use Rattle.macro_expand.proofs.ReadingLemmas.{reads_on, ends_there, reading_is}
use Rattle.macro_expand.proofs.arguments.read_call.Goals as goal

pub tokens-init : goal.tokens-init
tokens-init c =
    let def = c.args.def.now in
    let rest = c.args.rest.now in
    record {
      goes = ap (λ (args : List (List Marked)). reads def 0 (record {
        depth = 0;
        done = args;
        current = c.new-2.result;
      }) rest) c.new.ensures
          ∙ ap (λ (ts : List Marked). reads def 0 (record { depth = 0; done = []; current = ts }) rest) c.new-2.ensures
          ∙ reading_is def rest;
      depth = omega arith;
    }

pub tokens-preserved : goal.tokens-preserved
tokens-preserved c =
    let rest = c.args.rest.now in
    let at = sym c.look.ensures.value ∙ ap (option_map seen) c.in-Some.is in
    let next = drop_at rest c.tokens.at (seen c.in-Some.token) at in
    let going : c.in_ok-ended.ended ≡ None = search rules in
    record {
      goes = reads_on c.args.def.now c.tokens.at c.tokens.reading c.take_turn.new.reading (seen c.in-Some.token)
          (drop (c.tokens.at + 1) rest) (drop c.tokens.at rest) next
          (sym (ap (turned_to c.take_turn.new.reading) going) ∙ c.in_ok-ended.ensures.value)
          ∙ c.tokens.invariant.goes;
      depth = c.in_ok-ended.ensures.deep;
    }

pub tokens-smaller : goal.tokens-smaller
tokens-smaller c =
    let at = sym c.look.ensures.value ∙ ap (option_map seen) c.in-Some.is in
    let within = slice_get_within c.args.rest.now c.tokens.at (seen c.in-Some.token) at in
    omega (arith, within)

pub returns-in_default : goal.returns-in_default
returns-in_default c =
    let rest = c.args.rest.now in
    let none : c.look.result ≡ None = search rules in
    c.at_end.ensures
    ∙ ap (reads c.args.def.now c.tokens.at c.tokens.reading)
    (sym (drop_none rest c.tokens.at (sym c.look.ensures.value ∙ ap (option_map seen) none)))
    ∙ c.tokens.invariant.goes

pub returns-in-Some-ended : goal.returns-in-Some-ended
returns-in-Some-ended c =
    let rest = c.args.rest.now in
    let at = sym c.look.ensures.value ∙ ap (option_map seen) c.in-Some.is in
    ends_there c.args.def.now c.tokens.at c.tokens.reading c.in-Some-ended.called (seen c.in-Some.token)
    (drop (c.tokens.at + 1) rest) (drop c.tokens.at rest) (drop_at rest c.tokens.at (seen c.in-Some.token) at)
    (sym c.in_ok-ended.ensures.value ∙ ap (turned_to c.take_turn.new.reading) c.in-Some-ended.is)
    ∙ c.tokens.invariant.goes
