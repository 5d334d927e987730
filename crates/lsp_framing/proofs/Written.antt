-- What is written is read.
use Rattle.std.proofs.Common.{◌≡◌, ℕ, ◌+◌, ◌-◌, ◌^◌, ◌≤◌, ◌<◌, Bool, true, false, cond, not, List, [], ◌∷◌, ◌++◌, length, take, drop, Some, None, Ok, Err, nat_le, nat_lt, ◌==◌, ◌&&◌, ◌||◌, slice_index, refl, arith, sym, ◌∙◌, ap, subst, append_assoc, reverse}
use Rattle.std.specs.Prelude.{position, codes, decimal}
use Rattle.std.specs.List.{AllByRecursion, list_all, prefix_len, flat_map}
use Rattle.std.specs.Option.{option_map_or}
use Rattle.std.specs.Char.{is_ascii_digit, digit_value}
use Rattle.std.specs.Str.Parse.{digits_value, AllDigits}
use Rattle.std.proofs.lemmas.Fmt.{decimal_is_IsNumeral, length-decimal-le}
use Rattle.std.proofs.lemmas.List.{length-append, append-nil, take_at, get_or_push, length_push, take_all, drop_at, reverse-append}
use Rattle.std.proofs.Math.Seq.{take-append-add}
use Rattle.std.proofs.lemmas.Bool.Decides.{nat_tests}
use Rattle.lsp_framing.specs.declared.FrameKind.TheVariants.{BadField}
use Rattle.lsp_framing.specs.Lines.{Ended, header, header_from, with_number, with_length, with_field, with_line, is_number, is_name, is_unbroken, is_blank, trimmed, or_fault, longest_header, longest_content}
use Rattle.lsp_framing.specs.Scanned.{lines_met, lines_from, line_ended}
use Rattle.lsp_framing.proofs.Scanning.{header_scans}
use Rattle.lsp_framing.specs.Frames.{Whole, Unfinished, front, Empty, parted, after, frames_from, frames}
use Rattle.frame_form.specs.Written.{framed}
use Rattle.lsp_framing.proofs.Follow.{front_is, one_frame}
use Rattle.lsp_framing.proofs.Laws.{frames_join}

digit_test : (c : ℕ) → digit_value c < 10 → is_ascii_digit c ≡ true
digit_test c h = grind (arith, nat_tests)

-- each byte is a digit
digits_tests : (ds : List ℕ) → AllDigits 10 ds → list_all is_ascii_digit ds ≡ true
digits_tests [] h = refl
digits_tests (c ∷ ds) h = ap (λ t. t && list_all is_ascii_digit ds) (digit_test c h.0) ∙ digits_tests ds h.1

-- no byte of a text is an LF
abbrev HasNoLF : List ℕ → Type 0
HasNoLF text = AllByRecursion (λ b. (b == 10) ≡ false) text

digits_no_lf : (ds : List ℕ) → AllDigits 10 ds → HasNoLF ds
digits_no_lf [] h = tt
digits_no_lf (c ∷ ds) h = (grind (arith, nat_tests, h.0), digits_no_lf ds h.1)

none_ended : (so_far : List ℕ) (b : ℕ) → (b == 10) ≡ false → line_ended so_far b ≡ None
unfolding line_ended
none_ended so_far b e =
    ap (λ (t : Bool). cond (t && slice_index so_far (length so_far - 1) == 13) (Some (take (length so_far - 1) so_far)) None) e

one_ended : (text : List ℕ) → line_ended (text ++ 13 ∷ []) 10 ≡ Some text
unfolding line_ended
one_ended text =
    let n : length (text ++ 13 ∷ []) - 1 ≡ length text = omega (arith, length_push text 13) in
    rw (n, get_or_push text 13 0 (length text) refl, take_at text (13 ∷ []) (length text) refl) refl

-- a text with no LF is a line once CR LF stands behind it
line_is : (text so_far rest : List ℕ) → HasNoLF text → lines_from so_far (text ++ 13 ∷ 10 ∷ rest) ≡ (so_far ++ text) ∷ lines_from [] rest
line_is [] so_far rest h = rw (none_ended so_far 13 refl, one_ended so_far, append-nil so_far) refl
line_is (b ∷ text) so_far rest h =
    rw (none_ended so_far b h.0)
    (line_is text (so_far ++ b ∷ []) rest h.1 ∙ ap (λ t. t ∷ lines_from [] rest) (append_assoc so_far (b ∷ []) text))

-- no byte of a text is a blank
abbrev HasNoBlank : List ℕ → Type 0
HasNoBlank text = AllByRecursion (λ b. is_blank b ≡ false) text

digits_no_blank : (ds : List ℕ) → AllDigits 10 ds → HasNoBlank ds
digits_no_blank [] h = tt
digits_no_blank (c ∷ ds) h = (no_blank c h.0, digits_no_blank ds h.1) where
  no_blank : (c : ℕ) → digit_value c < 10 → is_blank c ≡ false
  no_blank c h =
      let a : (c == 32) ≡ false = grind (arith, nat_tests) in
      let b : (c == 9) ≡ false = grind (arith, nat_tests) in
      rw (a, b) refl

no_blank_append : (a b : List ℕ) → HasNoBlank a → HasNoBlank b → HasNoBlank (a ++ b)
no_blank_append [] b h k = k
no_blank_append (x ∷ a) b h k = (h.0, no_blank_append a b h.1 k)

no_blank_reverse : (ds : List ℕ) → HasNoBlank ds → HasNoBlank (reverse ds)
no_blank_reverse [] h = tt
no_blank_reverse (c ∷ ds) h =
    let P : List ℕ → Type 0 = λ t. HasNoBlank t in
    subst P (sym (reverse-append (c ∷ []) ds)) (no_blank_append (reverse ds) (c ∷ []) (no_blank_reverse ds h.1) (h.0, tt))

no_prefix : (text : List ℕ) → HasNoBlank text → prefix_len is_blank text ≡ 0
no_prefix [] h = refl
no_prefix (b ∷ text) h = ap (λ (t : Bool). cond t (1 + prefix_len is_blank text) 0) h.0

-- one blank before the digits is dropped, and nothing else
trimmed_digits : (ds : List ℕ) → HasNoBlank ds → trimmed (32 ∷ ds) ≡ ds
unfolding trimmed
trimmed_digits ds h = rw (no_prefix ds h, no_prefix (reverse ds) (no_blank_reverse ds h)) (take_all (length ds - 0) ds (omega arith))

all_unbroken : (ds : List ℕ) → AllDigits 10 ds → list_all (λ b. not (b == 13 || b == 10)) ds ≡ true
all_unbroken [] h = refl
all_unbroken (c ∷ ds) h =
    let a : (c == 13) ≡ false = let d = h.0 in grind (arith, nat_tests) in
    let b : (c == 10) ≡ false = let d = h.0 in grind (arith, nat_tests) in
    rw (a, b) (all_unbroken ds h.1)

unbroken_digits : (ds : List ℕ) → AllDigits 10 ds → is_unbroken (32 ∷ ds) ≡ true
unfolding is_unbroken
unbroken_digits ds h = all_unbroken ds h

with_length_is : (ds : List ℕ) → AllDigits 10 ds → 0 < length ds → digits_value 10 ds ≤ longest_content
    → with_length None ds ≡ Ok (Some (digits_value 10 ds))
unfolding with_length with_number is_number
with_length_is ds h some most =
    let a : nat_lt 0 (length ds) ≡ true = grind (arith, nat_tests) in
    let b : nat_lt longest_content (digits_value 10 ds) ≡ false = grind (arith, nat_tests) in
    rw (a, digits_tests ds h, b) refl

with_field_is : (ds : List ℕ) → AllDigits 10 ds → 0 < length ds → digits_value 10 ds ≤ longest_content
    → with_field None (codes "Content-Length") (32 ∷ ds) ≡ Ok (Some (digits_value 10 ds))
unfolding with_field is_name
with_field_is ds h some most =
    rw (unbroken_digits ds h, trimmed_digits ds (digits_no_blank ds h)) (with_length_is ds h some most)

with_digits : (ds : List ℕ) → AllDigits 10 ds → 0 < length ds → digits_value 10 ds ≤ longest_content
    → with_line None (codes "Content-Length: " ++ ds) ≡ Ok (Some (digits_value 10 ds))
unfolding with_line
with_digits ds h some most =
    let line = codes "Content-Length: " ++ ds in
    let t : nat_lt 14 (length line) ≡ true = grind (arith, nat_tests) in
    let at : position (λ b. b == 58) line ≡ Some 14 = ap (λ (t : Bool). cond t (Some 14) None) t in
    ap (λ o. option_map_or (λ colon. with_field None (take colon line) (drop (colon + 1) line)) o (Err BadField)) at
    ∙ with_field_is ds h some most

-- what a line and the empty line behind it give
head_read : (c : ℕ) (cs rest : List ℕ) (n : ℕ) → HasNoLF (c ∷ cs) → with_line None (c ∷ cs) ≡ Ok (Some n)
    → header_from None 0 (lines_met ((c ∷ cs) ++ 13 ∷ 10 ∷ 13 ∷ 10 ∷ rest)) ≡ Ended (length (c ∷ cs) + 4) n
head_read c cs rest n h e =
    let first : lines_met ((c ∷ cs) ++ 13 ∷ 10 ∷ 13 ∷ 10 ∷ rest) ≡ (c ∷ cs) ∷ lines_from [] (13 ∷ 10 ∷ rest) = line_is (c ∷ cs) [] (13 ∷ 10 ∷ rest) h in
    let second : lines_from [] (13 ∷ 10 ∷ rest) ≡ [] ∷ lines_from [] rest = line_is [] [] rest tt in
    let size : 0 + length (c ∷ cs) + 2 + 2 ≡ length (c ∷ cs) + 4 = omega arith in
    ap (λ t. header_from None 0 t) (first ∙ ap (λ t. (c ∷ cs) ∷ t) second)
    ∙ ap (λ r. or_fault r 0 (λ next. header_from next (0 + length (c ∷ cs) + 2) ([] ∷ lines_from [] rest))) e
    ∙ ap (λ k. Ended k n) size

-- the window of an input that begins with a short line
window_of : (text rest : List ℕ) → length text + 4 ≤ longest_header
    → take longest_header (text ++ 13 ∷ 10 ∷ 13 ∷ 10 ∷ rest) ≡ text ++ 13 ∷ 10 ∷ 13 ∷ 10 ∷ take (longest_header - (length text + 4)) rest
window_of text rest h =
    let end : List ℕ = 13 ∷ 10 ∷ 13 ∷ 10 ∷ [] in
    let k = longest_header - (length text + 4) in
    let n : length (text ++ end) + k ≡ longest_header = omega (arith, length-append text end) in
    ap (λ m. take m (text ++ 13 ∷ 10 ∷ 13 ∷ 10 ∷ rest)) (sym n)
    ∙ ap (take (length (text ++ end) + k)) (sym (append_assoc text end rest))
    ∙ take-append-add (text ++ end) rest k
    ∙ append_assoc text end (take k rest)

header_read : (c : ℕ) (cs rest : List ℕ) (n : ℕ) → HasNoLF (c ∷ cs) → with_line None (c ∷ cs) ≡ Ok (Some n) → length (c ∷ cs) + 4 ≤ longest_header
    → header ((c ∷ cs) ++ 13 ∷ 10 ∷ 13 ∷ 10 ∷ rest) ≡ Ended (length (c ∷ cs) + 4) n
header_read c cs rest n h e short =
    header_scans ((c ∷ cs) ++ 13 ∷ 10 ∷ 13 ∷ 10 ∷ rest)
    ∙ ap (λ t. header_from None 0 (lines_met t)) (window_of (c ∷ cs) rest short)
    ∙ head_read c cs (take (longest_header - (length (c ∷ cs) + 4)) rest) n h e

front_read : (c : ℕ) (cs content : List ℕ) → HasNoLF (c ∷ cs) → with_line None (c ∷ cs) ≡ Ok (Some (length content)) → length (c ∷ cs) + 4 ≤ longest_header
    → front ((c ∷ cs) ++ 13 ∷ 10 ∷ 13 ∷ 10 ∷ content) ≡ Whole (length (c ∷ cs) + 4) content
front_read c cs content h e short =
    let text : List ℕ = c ∷ cs in
    let end : List ℕ = 13 ∷ 10 ∷ 13 ∷ 10 ∷ [] in
    let bytes = text ++ 13 ∷ 10 ∷ 13 ∷ 10 ∷ content in
    let test : nat_le (length text + 4 + length content) (length bytes) ≡ true =
    let n = length-append text (13 ∷ 10 ∷ 13 ∷ 10 ∷ content) in grind (arith, nat_tests) in
    let behind : drop (length text + 4) bytes ≡ content =
    ap (drop (length text + 4)) (sym (append_assoc text end content)) ∙ drop_at (text ++ end) content (length text + 4) (length-append text end) in
    front_is bytes (Ended (length text + 4) (length content)) (header_read c cs content (length content) h e short)
    ∙ ap (λ t. cond t (Whole (length text + 4) (take (length content) (drop (length text + 4) bytes))) Unfinished) test
    ∙ ap (λ t. Whole (length text + 4) t) (ap (take (length content)) behind ∙ take_all (length content) content (omega arith))

literal_no_lf : (ds : List ℕ) → HasNoLF ds → HasNoLF (codes "Content-Length: " ++ ds)
literal_no_lf ds h = (refl, (refl, (refl, (refl, (refl, (refl, (refl, (refl, (refl, (refl, (refl, (refl, (refl, (refl, (refl, (refl, h))))))))))))))))

-- a frame with the header part and the content in one
abbrev written : List ℕ → List ℕ
written content = (codes "Content-Length: " ++ decimal (length content)) ++ 13 ∷ 10 ∷ 13 ∷ 10 ∷ content

framed_is : (content : List ℕ) → framed content ≡ written content
unfolding framed
framed_is content = append_assoc (codes "Content-Length: " ++ decimal (length content)) (13 ∷ 10 ∷ 13 ∷ 10 ∷ []) content

written_front : (content : List ℕ) → length content ≤ longest_content
    → front (written content) ≡ Whole (20 + length (decimal (length content))) content
written_front content h =
    let n = length content in
    let ds = decimal n in
    let small : n < 2 ^ 64 = omega arith in
    let d = decimal_is_IsNumeral n small in
    let most : digits_value 10 ds ≤ longest_content = omega (arith, d.1) in
    let line : with_line None (codes "Content-Length: " ++ ds) ≡ Ok (Some n) = with_digits ds d.0.1 d.0.0 most ∙ ap (λ k. Ok (Some k)) d.1 in
    let short : length ds ≤ 8 = length-decimal-le 8 n (omega arith) (omega arith) small in
    let size : length (codes "Content-Length: " ++ ds) + 4 ≡ 20 + length ds = omega arith in
    front_read _ _ content (literal_no_lf ds (digits_no_lf ds d.0.1)) line (omega (arith, short, size))
    ∙ ap (λ k. Whole k content) size

written_frame : (content : List ℕ) (place : ℕ) → length content ≤ longest_content
    → frames_from place 0 (written content) ≡ parted (content ∷ []) Empty
written_frame content place h =
    one_frame (written content) place (20 + length (decimal (length content))) content (written_front content h)
    (omega (arith, length-append (codes "Content-Length: " ++ decimal (length content)) (13 ∷ 10 ∷ 13 ∷ 10 ∷ content))) (omega arith)

all_written : (contents : List (List ℕ)) (place : ℕ) → AllByRecursion (λ content. length content ≤ longest_content) contents
    → frames_from place 0 (flat_map written contents) ≡ parted contents Empty
all_written [] place h = refl
all_written (content ∷ contents) place h =
    let one = written_frame content place h.0 in
    frames_join (written content) (flat_map written contents) place 0 (omega arith) (ap (λ t. t.rest) one)
    ∙ ap (λ t. after t.contents (frames_from (place + length (written content)) 0 (flat_map written contents))) one
    ∙ ap (λ t. after (content ∷ []) t) (all_written contents (place + length (written content)) h.1)

pub written_are_read : (contents : List (List ℕ)) → AllByRecursion (λ content. length content ≤ longest_content) contents
    → frames (flat_map framed contents) ≡ parted contents Empty
unfolding frames
written_are_read contents h = ap (λ (f : List ℕ → List ℕ). frames (flat_map f contents)) (λ i content. framed_is content i) ∙ all_written contents 0 h
