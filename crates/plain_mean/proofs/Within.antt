-- What is shown of a text lies within it.
use Rattle.std.proofs.Common.{ℕ, zero, suc, ◌≤◌, Bool, true, false, List, [], ◌∷◌, map, length, arith, cond}
use Rattle.std.specs.List.{All, filter}
use Rattle.std.specs.Map.{keys_of}
use Rattle.std.specs.BTreeMap.{insert_entry}
use Rattle.std.proofs.lemmas.List.Elements.{All-nil, All-cons, All-append, All-head, All-tail}
use Rattle.std.proofs.lemmas.Map.Views.{All-keys-insert_entry}
use Rattle.c_tokens.specs.declared.types.LexFault.{LexFault}
use Rattle.c_tokens.specs.Lexed.{lexed}
use Rattle.c_tokens.specs.Laws.{InOrder, ranges}
use Rattle.tok_data.specs.declared.faults.ShownFault.{ShownFault}
use Rattle.plain_mean.specs.Shown.{shown_cmp, with_all, in_order, place_of, placed, is_open_comment, of_lexing, open_comments, of_text}
use Rattle.plain_mean.specs.Within.{AreWithin}
use Rattle.plain_mean.specs.declared.types.Shown.{Shown}

-- one by one, since a set is made in another order
record IsWithin (limit : ℕ) (s : Shown) : Type 0 where
  start : s.start ≤ limit
  end : s.end ≤ limit

abbrev Each : ℕ → List Shown → Type 0
Each limit all = All (IsWithin limit) all

all_of : (limit : ℕ) (all : List Shown) → Each limit all → AreWithin limit all
all_of limit [] h = tt
all_of limit (s ∷ rest) h =
    let first = All-head (IsWithin limit) s rest h in (first.start, first.end, all_of limit rest (All-tail (IsWithin limit) s rest h))

-- what stands in order lies within the limit
order_limit : (text : List ℕ) (from limit : ℕ) (rs : List (ℕ × ℕ)) → InOrder text from limit rs → from ≤ limit
order_limit text from limit [] order = order
order_limit text from limit (r ∷ rs) order =
    let rest : r.1 ≤ limit = order_limit text r.1 limit rs order.4 in omega (arith, order.0, order.1, rest)

front_within : (limit : ℕ) → (0 ≤ limit) × (0 ≤ limit)
front_within limit = (omega arith, omega arith)

place_within : (text : List ℕ) (from limit : ℕ) (rs : List (ℕ × ℕ)) (at : ℕ) → InOrder text from limit rs → ((place_of rs at).0 ≤ limit) × ((place_of rs at).1 ≤ limit)
place_within text from limit [] at order = front_within limit
place_within text from limit (r ∷ rs) zero order =
    let rest : r.1 ≤ limit = order_limit text r.1 limit rs order.4 in (omega (arith, order.1, rest), rest)
place_within text from limit (r ∷ rs) (suc at) order = place_within text r.1 limit rs at order.4

module _ (text : List ℕ) (limit : ℕ) where
  all_placed : (rs : List (ℕ × ℕ)) (faults : List ShownFault) → InOrder text 0 limit rs → Each limit (map (placed rs) faults)
  all_placed rs [] order = All-nil (IsWithin limit)
  all_placed rs (fault ∷ faults) order =
      let is = place_within text 0 limit rs fault.tok.at order in
      All-cons (IsWithin limit) (placed rs fault) (map (placed rs) faults) (record { start = is.0; end = is.1 }) (all_placed rs faults order)

  comment : (b : Bool) (fault : LexFault) (rest : List LexFault) → fault.start ≤ limit → fault.end ≤ limit → Each limit (map of_lexing rest) →
      Each limit (map of_lexing (cond b (fault ∷ rest) rest))
  comment true fault rest s e h = All-cons (IsWithin limit) (of_lexing fault) (map of_lexing rest) (record { start = s; end = e }) h
  comment false fault rest s e h = h

  comments : (from : ℕ) (faults : List LexFault) → InOrder text from limit (ranges faults) → Each limit (map of_lexing (filter is_open_comment faults))
  comments from [] order = All-nil (IsWithin limit)
  comments from (fault ∷ faults) order =
      let rest : fault.end ≤ limit = order_limit text fault.end limit (ranges faults) order.4 in
      comment (is_open_comment fault) fault (filter is_open_comment faults) (omega (arith, order.1, rest)) rest (comments fault.end faults order.4)

  open_ones : (read : Bool) (faults : List LexFault) → InOrder text 0 limit (ranges faults) → Each limit (open_comments read faults)
  open_ones true faults order = comments 0 faults order
  open_ones false faults order = All-nil (IsWithin limit)

  set_within : (entries : List (Shown × Unit {0})) (all : List Shown) → All (IsWithin limit) (keys_of entries) → Each limit all → All (IsWithin limit) (keys_of (with_all entries all))
  set_within entries [] h each = h
  set_within entries (s ∷ rest) h each =
      set_within (insert_entry shown_cmp entries s tt) rest (All-keys-insert_entry shown_cmp s tt (IsWithin limit) entries h (All-head (IsWithin limit) s rest each)) (All-tail (IsWithin limit) s rest each)

  order_within : (all : List Shown) → Each limit all → AreWithin limit (in_order all)
  order_within all each = all_of limit (in_order all) (set_within [] all (All-nil (IsWithin limit)) each)

pub text_within : (text : List ℕ) (faults : List ShownFault) (read : Bool) → InOrder text 0 (length text) (lexed text).places → InOrder text 0 (length text) (ranges (lexed text).faults) →
    AreWithin (length text) (of_text text faults read)
text_within text faults read places comments =
    order_within text (length text) _ (All-append (IsWithin (length text)) (map (placed (lexed text).places) faults) (open_comments read (lexed text).faults)
    (all_placed text (length text) (lexed text).places faults places) (open_ones text (length text) read (lexed text).faults comments))
