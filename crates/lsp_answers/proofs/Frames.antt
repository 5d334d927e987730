-- A content behind its header.
use Rattle.std.proofs.Common.{◌≡◌, ℕ, List, ◌++◌, refl, ap, ◌∙◌, append_assoc, length}
use Rattle.frame_form.specs.Written.{header_of, framed}

framed_is : (content : List ℕ) → header_of (length content) ++ content ≡ framed content
unfolding framed
framed_is content = refl

pub framed_behind : (old mid new content : List ℕ) → mid ≡ old ++ header_of (length content) → new ≡ mid ++ content → new ≡ old ++ framed content
framed_behind old mid new content first then =
    then ∙ ap (λ m. m ++ content) first ∙ append_assoc old (header_of (length content)) content ∙ ap (λ f. old ++ f) (framed_is content)
