-- From what was found in the window of a header part to what is known of the bytes that stand.
use Rattle.std.proofs.Common.{◌≡◌, ℕ, ◌+◌, ◌-◌, ◌≤◌, ◌<◌, true, cond, List, [], ◌++◌, length, take, None, nat_le, arith, sym, ◌∙◌, ap}
use Rattle.std.proofs.lemmas.List.{take_all, take-append-le, take-take, append-nil, length-take-le, length-take, length-append}
use Rattle.std.proofs.Math.Seq.{take-append-add}
use Rattle.std.proofs.lemmas.Bool.Decides.{nat_tests}
use Rattle.lsp_framing.specs.declared.FrameKind.{FrameKind}
use Rattle.lsp_framing.specs.declared.FrameKind.TheVariants.{HeaderLong}
use Rattle.lsp_framing.specs.declared.header.State.{State}
use Rattle.lsp_framing.specs.declared.header.State.TheVariants as state
use Rattle.lsp_framing.specs.Lines.{header, header_from, Fault, Unended, longest_header}
use Rattle.lsp_framing.specs.Scanned.{lines_met}
use Rattle.lsp_framing.proofs.Scanning.{header_scans}
use Rattle.lsp_framing.specs.Frames.{front, front_by, Faulty, Unfinished}
use Rattle.lsp_framing.specs.Known.{FoundIn, Known, or_long}

pub header_short : (bytes more : List ℕ) → length bytes ≤ longest_header
    → header (bytes ++ more) ≡ header_from None 0 (lines_met (bytes ++ take (longest_header - length bytes) more))
header_short bytes more h =
    let e : length bytes + (longest_header - length bytes) ≡ longest_header = omega arith in
    header_scans (bytes ++ more)
    ∙ ap (λ t. header_from None 0 (lines_met t)) (ap (λ n. take n (bytes ++ more)) (sym e) ∙ take-append-add bytes more (longest_header - length bytes))

header_long : (bytes more : List ℕ) → longest_header ≤ length bytes
    → header (bytes ++ more) ≡ header_from None 0 (lines_met (take longest_header bytes ++ []))
header_long bytes more h =
    header_scans (bytes ++ more)
    ∙ ap (λ t. header_from None 0 (lines_met t)) (take-append-le longest_header bytes more h ∙ sym (append-nil (take longest_header bytes)))

front_fault : (bytes : List ℕ) (at : ℕ) (kind : FrameKind) → header bytes ≡ Fault at kind → front bytes ≡ Faulty at kind
unfolding front
front_fault bytes at kind e = ap (λ h. front_by h bytes) e

front_long : (bytes : List ℕ) → header bytes ≡ Unended → longest_header ≤ length bytes → front bytes ≡ Faulty 0 HeaderLong
unfolding front
front_long bytes e h =
    let test : nat_le longest_header (length bytes) ≡ true = grind (arith, nat_tests) in
    ap (λ h. front_by h bytes) e ∙ ap (λ t. cond t (Faulty 0 HeaderLong) Unfinished) test

pub known_short : (bytes : List ℕ) (s : State) → length bytes < longest_header → FoundIn bytes s → Known s bytes
known_short bytes (state.Header line scanned stated) h f = record {
  within = omega (arith, f.0);
  short = omega (arith, f.0);
  reads = let all : take scanned bytes ≡ bytes = take_all scanned bytes (omega (arith, f.0)) in rw all f.1;
}
known_short bytes (state.Content size len) h f = record {
  within = f.within;
  short = omega (arith, f.within);
  some = f.some;
  most = f.most;
  goes_on = λ more.
      header_short (take size bytes) more (omega (arith, length-take size bytes, f.within))
      ∙ f.goes_on (take (longest_header - length (take size bytes)) more);
}
known_short bytes (state.Faulty at kind) h f = record {
  within = f.within;
  goes_on = λ more. front_fault (bytes ++ more) at kind (header_short bytes more (omega (arith, h)) ∙ f.goes_on (take (longest_header - length bytes) more));
}

pub known_long : (bytes : List ℕ) (s : State) → longest_header ≤ length bytes → FoundIn (take longest_header bytes) s → Known (or_long s) bytes
known_long bytes (state.Header line scanned stated) h f = record {
  within = omega arith;
  goes_on = λ more.
      let unended : header (bytes ++ more) ≡ Unended = header_long bytes more h ∙ f.1.goes_on [] in
      front_long (bytes ++ more) unended (omega (arith, length-append bytes more, h));
}
known_long bytes (state.Content size len) h f =
    let n = length-take-le longest_header bytes h in
    record {
      within = omega (arith, f.within, n);
      short = omega (arith, f.within, n);
      some = f.some;
      most = f.most;
      goes_on = λ more.
          let same : take size (take longest_header bytes) ≡ take size bytes = take-take size longest_header bytes (omega (arith, f.within, n)) in
          header_short (take size bytes) more (omega (arith, length-take size bytes, f.within, n))
          ∙ ap (λ t. header_from None 0 (lines_met (t ++ take (longest_header - length (take size bytes)) more))) (sym same)
          ∙ f.goes_on (take (longest_header - length (take size bytes)) more);
    }
known_long bytes (state.Faulty at kind) h f = record {
  within = omega (arith, f.within, length-take-le longest_header bytes h);
  goes_on = λ more. front_fault (bytes ++ more) at kind (header_long bytes more h ∙ f.goes_on []);
}
