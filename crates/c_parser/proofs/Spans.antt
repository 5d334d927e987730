-- A tree holds from one place to another exactly where it is formed and spells the numbers between them.
use Rattle.std.proofs.Common.{◌≡◌, sym, subst, ℕ, ◌+◌, List, false, length, arith}
use Rattle.tree_data.specs.Trees.{Tree, Naming}
use Rattle.c_parser.specs.declared.kinds.Kind.{Kind}
use Rattle.c_parser.specs.Grammar.{spell, IsExpression, numbers, spell_type, IsNaming}
use Rattle.c_parser.specs.Numbers.{Spans}
use Rattle.c_parser.proofs.Numbers.{numbers_span, span_numbers}
use Rattle.c_parser.specs.Reading.{Reads, HoldsNaming}
use Rattle.c_parser.proofs.Formed.{formed, formed_naming}
use Rattle.c_parser.proofs.Spanned.{spanned, spanned_naming}
use Rattle.c_parser.proofs.Held.{held, held_naming}

pub expression_reads : (ks : List Kind) → (t : Tree) → IsExpression ks t → Reads ks 1 t 0 (length ks)
expression_reads ks t e =
    let all : 0 + length ks ≡ length ks = omega arith in (
      e.proper.0,
      held
          ks
          t
          0
          (length ks)
          e.proper.1
          (subst
          (λ xs. Spans xs 0 (length ks))
          (sym e.spells)
          (subst (λ b. Spans (numbers 0 (length ks)) 0 b) all (numbers_span (length ks) 0))),
    )

pub reads_expression : (ks : List Kind) → (t : Tree) → Reads ks 1 t 0 (length ks) → IsExpression ks t
reads_expression ks t h =
    let all : length ks ≡ 0 + length ks = omega arith in
    record {
      proper = (h.0, formed ks t 0 (length ks) h.1);
      spells = span_numbers (spell t) 0 (length ks) (length ks) (spanned ks t 0 (length ks) h.1) all;
    }

pub formed_type : (ks : List Kind) → (t : Naming) → (a b : ℕ) → HoldsNaming ks false t a b → IsNaming ks false t
formed_type ks t a b h = formed_naming ks false t a b h

pub spanned_type : (ks : List Kind) → (t : Naming) → (a b : ℕ) → HoldsNaming ks false t a b → Spans (spell_type t) a b
spanned_type ks t a b h = spanned_naming ks false t a b h

pub held_type : (ks : List Kind) → (t : Naming) → (a b : ℕ) → IsNaming ks false t → Spans (spell_type t) a b → HoldsNaming ks false t a b
held_type ks t a b f s = held_naming ks false t a b f s
