-- Reading a header part byte by byte.
use Rattle.std.proofs.Common.{◌≡◌, ℕ, ◌+◌, ◌-◌, ◌≤◌, ◌<◌, Bool, true, false, cond, List, [], ◌∷◌, ◌++◌, length, take, drop, get_or, slice_index, ◌==◌, ◌&&◌, Option, Some, None, Ok, Err, IfSome, refl, arith, sym, ◌∙◌, ap, append_assoc}
use Rattle.std.proofs.lemmas.List.{drop-append-le, drop_all, length_push, length-take-le, length-drop, take-append-drop, drop-take, take_more}
use Rattle.std.proofs.lemmas.Bool.Decides.{nat_tests}
use Rattle.std.specs.Option.{option_map_or}
use Rattle.lsp_framing.specs.declared.FrameKind.{FrameKind}
use Rattle.lsp_framing.specs.declared.FrameKind.TheVariants.{NoLength}
use Rattle.lsp_framing.specs.Lines.{header_from, Ended, with_line, longest_content}
use Rattle.lsp_framing.specs.Scanned.{lines_met, lines_from, line_ended}
use Rattle.lsp_framing.specs.Known.{Reads, Holds, Fails, FoundIn, end_of}

-- behind the next byte, in the terms of what goes on
after_byte : (read : List ℕ) (line b : ℕ) (stated : Option ℕ) → Reads read line stated → (more : List ℕ)
    → header_from None 0 (lines_met ((read ++ b ∷ []) ++ more))
    ≡ header_from stated line (option_map_or (λ text. text ∷ lines_from [] more) (line_ended (drop line read) b) (lines_from (drop line read ++ b ∷ []) more))
after_byte read line b stated r more = ap (λ t. header_from None 0 (lines_met t)) (append_assoc read (b ∷ []) more) ∙ r.goes_on (b ∷ more)

pub ended_length : (so_far text : List ℕ) (b : ℕ) → line_ended so_far b ≡ Some text → length text + 1 ≡ length so_far
unfolding line_ended
ended_length [] text b e =
    elim (b == 10) as (λ (t : Bool). cond (t && false) (Some []) None ≡ Some text → length text + 1 ≡ 0) [ true ↦ λ h. cc | false ↦ λ h. cc ] e
ended_length (x ∷ xs) text b e =
    elim (b == 10 && slice_index (x ∷ xs) (length (x ∷ xs) - 1) == 13)
    as (λ (t : Bool). cond t (Some (take (length (x ∷ xs) - 1) (x ∷ xs))) None ≡ Some text → length text + 1 ≡ length (x ∷ xs)) [
      | true ↦ λ h. let same : take (length (x ∷ xs) - 1) (x ∷ xs) ≡ text = cc in
          let some : length (x ∷ xs) - 1 + 1 ≡ length (x ∷ xs) = omega arith in
          rw (← same) (omega (arith, length-take-le (length (x ∷ xs) - 1) (x ∷ xs) (omega arith), some))
      | false ↦ λ h. cc
    ] e

pub reads_more : (read : List ℕ) (line b : ℕ) (stated : Option ℕ) → Reads read line stated
    → line_ended (drop line read) b ≡ None → Reads (read ++ b ∷ []) line stated
reads_more read line b stated r e = record {
  within = simp length_push (omega (arith, r.within));
  most = r.most;
  goes_on = λ more. after_byte read line b stated r more ∙ rw (e, drop-append-le line read (b ∷ []) r.within) refl;
}

pub reads_line : (read : List ℕ) (line b : ℕ) (stated next : Option ℕ) (c : ℕ) (cs : List ℕ) (at : ℕ) → length read ≡ at → Reads read line stated
    → line_ended (drop line read) b ≡ Some (c ∷ cs) → with_line stated (c ∷ cs) ≡ Ok next → IfSome next (λ n. n ≤ longest_content)
    → Reads (read ++ b ∷ []) (at + 1) next
reads_line read line b stated next c cs at n r e said most = record {
  within = simp length_push (omega arith);
  most = most;
  goes_on = λ more.
      let long : length (c ∷ cs) + 1 ≡ length (drop line read) = ended_length (drop line read) (c ∷ cs) b e in
      let place : line + length (c ∷ cs) + 2 ≡ at + 1 = omega (arith, long, length-drop line read, r.within, n) in
      after_byte read line b stated r more
      ∙ rw (e, said, place, drop_all (at + 1) (read ++ b ∷ []) (omega (arith, length_push read b, n))) refl;
}

pub reads_fault : (read : List ℕ) (line b : ℕ) (stated : Option ℕ) (kind : FrameKind) (c : ℕ) (cs : List ℕ) → Reads read line stated
    → line_ended (drop line read) b ≡ Some (c ∷ cs) → with_line stated (c ∷ cs) ≡ Err kind
    → Fails (read ++ b ∷ []) line kind
reads_fault read line b stated kind c cs r e said = record {
  within = simp length_push (omega (arith, r.within));
  goes_on = λ more. after_byte read line b stated r more ∙ rw (e, said) refl;
}

pub reads_none : (read : List ℕ) (line b : ℕ) (at : ℕ) → length read ≡ at → Reads read line None
    → line_ended (drop line read) b ≡ Some [] → Fails (read ++ b ∷ []) (at + 1) NoLength
reads_none read line b at n r e = record {
  within = simp length_push (omega arith);
  goes_on = λ more.
      let long : length {A = ℕ} [] + 1 ≡ length (drop line read) = ended_length (drop line read) [] b e in
      let place : line + 2 ≡ at + 1 = omega (arith, long, length-drop line read, r.within, n) in
      after_byte read line b None r more ∙ rw (e, place) refl;
}

pub reads_end : (read : List ℕ) (line b len : ℕ) (at : ℕ) → length read ≡ at → Reads read line (Some len)
    → line_ended (drop line read) b ≡ Some []
    → (more : List ℕ) → header_from None 0 (lines_met ((read ++ b ∷ []) ++ more)) ≡ Ended (at + 1) len
reads_end read line b len at n r e more =
    let long : length {A = ℕ} [] + 1 ≡ length (drop line read) = ended_length (drop line read) [] b e in
    let place : line + 2 ≡ at + 1 = omega (arith, long, length-drop line read, r.within, n) in
    after_byte read line b (Some len) r more ∙ rw (e, place) refl

-- what stands of a line, as the code cuts it out
so_far_is : (window : List ℕ) (line at : ℕ) → line ≤ at → take (at - line) (drop line window) ≡ drop line (take at window)
so_far_is window line at h =
    let e : line + (at - line) ≡ at = omega arith in
    sym (drop-take line (at - line) window) ∙ ap (λ n. drop line (take n window)) e

-- the same steps over a window of which `at` bytes are read
module _ (window : List ℕ) (line at : ℕ) (stated : Option ℕ) (within : at < length window) (r : Reads (take at window) line stated) where
  abbrev so_far : List ℕ
  so_far = take (at - line) (drop line window)

  byte_is : take (at + 1) window ≡ take at window ++ get_or window at 0 ∷ []
  byte_is = take_more window at 0 within

  long : length (take at window) ≡ at
  long = length-take-le at window (omega arith)

  in_line : {o : Option (List ℕ)} → line_ended so_far (get_or window at 0) ≡ o → line_ended (drop line (take at window)) (get_or window at 0) ≡ o
  in_line e = rw (sym (so_far_is window line at (omega (arith, r.within, long)))) e

  pub window_more : line_ended so_far (get_or window at 0) ≡ None → Reads (take (at + 1) window) line stated
  window_more e = rw byte_is (reads_more (take at window) line (get_or window at 0) stated r (in_line e))

  pub window_line : (next : Option ℕ) (text : List ℕ) → (length text == 0) ≡ false
      → line_ended so_far (get_or window at 0) ≡ Some text → with_line stated text ≡ Ok next → IfSome next (λ n. n ≤ longest_content)
      → Reads (take (at + 1) window) (at + 1) next
  window_line next [] some e said most = cc
  window_line next (c ∷ cs) some e said most =
      rw byte_is (reads_line (take at window) line (get_or window at 0) stated next c cs at long r (in_line e) said most)

  rest_is : (more : List ℕ) → window ++ more ≡ take (at + 1) window ++ (drop (at + 1) window ++ more)
  rest_is more = ap (λ t. t ++ more) (sym (take-append-drop (at + 1) window)) ∙ append_assoc (take (at + 1) window) (drop (at + 1) window) more

  pub window_fault : (kind : FrameKind) (text : List ℕ) → (length text == 0) ≡ false
      → line_ended so_far (get_or window at 0) ≡ Some text → with_line stated text ≡ Err kind
      → Fails window line kind
  window_fault kind [] some e said = cc
  window_fault kind (c ∷ cs) some e said =
      let f : Fails (take (at + 1) window) line kind = rw byte_is (reads_fault (take at window) line (get_or window at 0) stated kind c cs r (in_line e) said) in
      record {
        within = omega (arith, r.within, long);
        goes_on = λ more. ap (λ t. header_from None 0 (lines_met t)) (rest_is more) ∙ f.goes_on (drop (at + 1) window ++ more);
      }

window_end_none : (window : List ℕ) (line at : ℕ) → at < length window → Reads (take at window) line None
    → line_ended (take (at - line) (drop line window)) (get_or window at 0) ≡ Some [] → Fails window (at + 1) NoLength
window_end_none window line at within r e =
    let f : Fails (take (at + 1) window) (at + 1) NoLength =
    rw (byte_is window line at None within r)
    (reads_none (take at window) line (get_or window at 0) at (long window line at None within r) r (in_line window line at None within r e)) in
    record {
      within = omega arith;
      goes_on = λ more. ap (λ t. header_from None 0 (lines_met t)) (rest_is window line at None within r more) ∙ f.goes_on (drop (at + 1) window ++ more);
    }

window_end_some : (window : List ℕ) (line at len : ℕ) → at < length window → Reads (take at window) line (Some len)
    → line_ended (take (at - line) (drop line window)) (get_or window at 0) ≡ Some [] → Holds window (at + 1) len
window_end_some window line at len within r e = record {
  within = omega arith;
  some = omega arith;
  most = r.most;
  goes_on = λ more.
      ap (λ t. header_from None 0 (lines_met (t ++ more))) (byte_is window line at (Some len) within r)
      ∙ reads_end (take at window) line (get_or window at 0) len at (long window line at (Some len) within r) r (in_line window line at (Some len) within r e) more;
}

pub window_end : (window : List ℕ) (line at : ℕ) (stated : Option ℕ) → at < length window → Reads (take at window) line stated
    → (text : List ℕ) → (length text == 0) ≡ true → line_ended (take (at - line) (drop line window)) (get_or window at 0) ≡ Some text
    → FoundIn window (end_of stated (at + 1))
window_end window line at stated within r (c ∷ cs) none e = absurd (grind (arith, nat_tests))
window_end window line at None within r [] none e = window_end_none window line at within r e
window_end window line at (Some len) within r [] none e = window_end_some window line at len within r e
