-- The tokens of a unit that define or declare a name at file scope (ISO C11 6.2.1p4), in the order of output tokens. One that was made
-- (6.10.3.3) stands in no text.
use Rattle.std.specs.Prelude.{ℕ, List, [], ◌∷◌, ◌++◌, Option, Some, None}
use Rattle.std.specs.List.{cons_option}
use Rattle.scope_tables.specs.declared.meanings.HeadMeaning.{HeadMeaning}
use Rattle.scope_tables.specs.declared.meanings.HeadSymbol.{HeadSymbol}
use Rattle.scope_tables.specs.declared.units.Symbol.{Symbol}
use Rattle.scope_tables.specs.declared.units.SymbolKind.{SymbolKind}
use Rattle.tok_data.specs.declared.tokens.OutToken.{OutToken}
use Rattle.tok_data.specs.declared.tokens.Spelt.{Spelt}
use Rattle.tok_data.specs.declared.tokens.Spelt.TheVariants as spelt
use Rattle.type_data.specs.declared.names.ItemName.{ItemName}
use Rattle.unit_items.specs.Sources.{output}
use Rattle.unit_items.specs.Units.{Unit}
use Rattle.unit_meaning.specs.Sites.{token_in}

abbrev pub spelt_as : Spelt → List ℕ → SymbolKind → Option Symbol
spelt_as (spelt.At tok) name kind = Some (record { tok = tok; name = name; kind = kind })
spelt_as spelt.Made name kind = None

abbrev pub of_token : Option OutToken → SymbolKind → Option Symbol
of_token None kind = None
of_token (Some t) kind = spelt_as t.spelt t.spelling kind

abbrev pub symbol : Unit → ItemName → HeadSymbol → Option Symbol
symbol u item s = of_token (output u.tokens u.items (token_in item s.at)) s.kind

abbrev pub of_item : Unit → ItemName → List HeadSymbol → List Symbol
of_item u item [] = []
of_item u item (s ∷ ss) = cons_option (symbol u item s) (of_item u item ss)

abbrev pub symbols : Unit → List HeadMeaning → List Symbol
symbols u [] = []
symbols u (h ∷ hs) = of_item u h.item h.symbols ++ symbols u hs
