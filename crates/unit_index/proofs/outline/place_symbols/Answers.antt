use Rattle.unit_index.specs.Symbols.{is_symbol}
use Rattle.unit_index.proofs.ChainLemmas.{first_begins, first_turns, first_ends}
use Rattle.unit_index.proofs.outline.place_symbols.Goals as goal

pub symbols-init : goal.symbols-init
symbols-init c = first_begins is_symbol _ _ c.no_places-first.ensures

pub symbols-preserved : goal.symbols-preserved
symbols-preserved c = first_turns is_symbol _ _ _ c.in-Some.symbol.now _ _ c.in-Some.ensures.cases.0 c.in_ok-put_token.ensures.places c.symbols.invariant

pub returns : goal.returns
returns c = first_ends is_symbol _ _ _ c.in_default.ensures.cases c.symbols.invariant
