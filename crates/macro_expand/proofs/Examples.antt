-- `#define f(a) a*g` and `#define g(a) f(a)` on `f(2)(9)`: the text becomes `2*9*g`, and the last `g` is hidden from
-- both names.
use Rattle.std.proofs.Common.{◌≡◌, ℕ, false, List, [], ◌∷◌, map, refl, if◌then◌else◌, codes, bytes_eq}
use Rattle.std.specs.Prelude.{Some, None}
use Rattle.tok_data.specs.declared.tokens.PpKind.{PpKind}
use Rattle.tok_data.specs.declared.tokens.PpKind.TheVariants.{Ident, Number, Punct}
use Rattle.tok_data.specs.declared.tokens.Spelt.TheVariants.{At}
use Rattle.tok_data.specs.declared.tokens.OutToken.{OutToken}
use Rattle.macro_table.specs.declared.definition.MacroDef.{MacroDef}
use Rattle.macro_expand.specs.declared.types.Marked.{Marked}
use Rattle.macro_expand.specs.HideSets.{hides, united, common}
use Rattle.macro_expand.specs.Tokens.{is_mark, is_hash, is_paste, plain}
use Rattle.macro_expand.specs.Arguments.{balanced, divides, fitted, lacks_variable, arg_of}
use Rattle.macro_expand.specs.Expansion.{Definitions, meaning, found, expansion, at_first}

abbrev token : List ℕ → ℕ → PpKind → List ℕ → OutToken
token file at kind text = record {
  kind = kind;
  spelling = text;
  space_before = false;
  spelt = At (record { file = file; at = at });
  site = record { file = file; at = at };
}

abbrev definition : List ℕ → List ℕ → List OutToken → MacroDef
definition file name body = record {
  name = name;
  tok = record { file = file; at = 2 };
  params = Some (codes "a" ∷ []);
  variadic = false;
  body = body;
}

abbrev f : MacroDef
f = definition (codes "f.h") (codes "f")
    (token (codes "f.h") 6 Ident (codes "a") ∷ token (codes "f.h") 7 Punct (codes "*") ∷ token (codes "f.h") 8 Ident
    (codes "g") ∷ [])

abbrev g : MacroDef
g = definition (codes "g.h") (codes "g")
    (token (codes "g.h") 6 Ident (codes "f") ∷ token (codes "g.h") 7 Punct (codes "(") ∷ token (codes "g.h") 8 Ident
    (codes "a")
    ∷ token (codes "g.h") 9 Punct (codes ")") ∷ [])

abbrev table : Definitions
table name = if bytes_eq name (codes "f") then Some f else (if bytes_eq name (codes "g") then Some g else None)

abbrev text : List OutToken
text = token (codes "t.c") 0 Ident (codes "f") ∷ token (codes "t.c") 1 Punct
    (codes "(") ∷ token (codes "t.c") 2 Number (codes "2")
    ∷ token (codes "t.c") 3 Punct (codes ")") ∷ token (codes "t.c") 4 Punct (codes "(") ∷ token (codes "t.c") 5 Number
    (codes "9")
    ∷ token (codes "t.c") 6 Punct (codes ")") ∷ []

abbrev outcome : List Marked
outcome = (expansion table [] (at_first 10) (map plain text)).tokens

pub spelled : map (λ (t : Marked). t.token.spelling) outcome ≡ codes "2" ∷ codes "*" ∷ codes "9" ∷ codes "*" ∷ codes
    "g" ∷ []
unfolding hides united common is_mark is_hash is_paste balanced divides fitted lacks_variable arg_of meaning found
    expansion
spelled = refl

pub both_hidden : map (λ (t : Marked). t.hides) outcome ≡ (codes "f" ∷ []) ∷ (codes "f" ∷ [])
    ∷ (codes "f" ∷ codes "g" ∷ [])
    ∷ (codes "f" ∷ codes "g" ∷ []) ∷ (codes "f" ∷ codes "g" ∷ []) ∷ []
unfolding hides united common is_mark is_hash is_paste balanced divides fitted lacks_variable arg_of meaning found
    expansion
both_hidden = refl
