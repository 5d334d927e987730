use Rattle.std.proofs.Common.{◌≡◌, ◌++◌, sym, ◌∙◌, ap}
use Rattle.std.proofs.lemmas.Bool.{not-true, not-false}
use Rattle.percent_encoding.specs.Percent.{percent_decode}
use Rattle.percent_encoding.specs.Iter.{decoded_bytes}
use Rattle.uri_paths.proofs.Decoded.{named, no_file, with_host, decoded, found, missed}
use Rattle.uri_paths.proofs.uri.path_of.Goals as goal

pub returns-then-ne : goal.returns-then-ne
returns-then-ne c = λ _. named c.args.uri.now c.in-Ok.url _ c.in-Ok.ensures (no_file c.in-Ok.url c.scheme.result.now c.scheme.ensures.value (not-true _ (sym c.ne.ensures ∙ c.if-ne.true)))

pub returns-then-has_host : goal.returns-then-has_host
returns-then-has_host c = λ _. named c.args.uri.now c.in-Ok.url _ c.in-Ok.ensures (with_host c.in-Ok.url c.scheme.result.now c.scheme.ensures.value (not-false _ (sym c.ne.ensures ∙ c.if-ne.false)) (sym c.has_host.ensures ∙ c.if-has_host.true))

pub returns-in-Some : goal.returns-in-Some
returns-in-Some c = λ _.
    let items : c.append_to.new.out.items ≡ c.new-bytes.result.items ++ decoded_bytes c.percent_decode.result = c.in_ok-append_to.ensures.ok in
    let bytes : c.deref.result.now ≡ percent_decode c.in-Ok.url.path = c.deref.ensures.value ∙ items ∙ (λ i. c.new-bytes.ensures.items i ++ (c.percent_decode.ensures.bytes ∙ ap percent_decode (c.as_bytes.ensures.value ∙ c.path.ensures.value)) i) in
    let read = decoded c.in-Ok.url c.scheme.result.now c.deref.result.now c.scheme.ensures.value (not-false _ (sym c.ne.ensures ∙ c.if-ne.false)) (sym c.has_host.ensures ∙ c.if-has_host.false) bytes in
    named c.args.uri.now c.in-Ok.url _ c.in-Ok.ensures (found c.deref.result.now c.in-Some.path (sym c.in-Some.is ∙ c.in_ok-path.ensures) ∙ sym read)

pub returns : goal.returns
returns c = λ _.
    let items : c.append_to.new.out.items ≡ c.new-bytes.result.items ++ decoded_bytes c.percent_decode.result = c.in_ok-append_to.ensures.ok in
    let bytes : c.deref.result.now ≡ percent_decode c.in-Ok.url.path = c.deref.ensures.value ∙ items ∙ (λ i. c.new-bytes.ensures.items i ++ (c.percent_decode.ensures.bytes ∙ ap percent_decode (c.as_bytes.ensures.value ∙ c.path.ensures.value)) i) in
    let read = decoded c.in-Ok.url c.scheme.result.now c.deref.result.now c.scheme.ensures.value (not-false _ (sym c.ne.ensures ∙ c.if-ne.false)) (sym c.has_host.ensures ∙ c.if-has_host.false) bytes in
    named c.args.uri.now c.in-Ok.url _ c.in-Ok.ensures (missed c.deref.result.now (sym c.in-None.is ∙ c.in_ok-path.ensures) ∙ sym read)
