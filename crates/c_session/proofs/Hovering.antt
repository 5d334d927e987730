-- What is told of a token, by the steps that find it.
use Rattle.std.proofs.Common.{◌≡◌, ℕ, List, Some, sym, ap, ◌∙◌}
use Rattle.doc_texts.specs.Texts.{Texts}
use Rattle.plain_mean.specs.Given.{text_in}
use Rattle.text_lines.specs.declared.encoding.Encoding.{Encoding}
use Rattle.text_lines.specs.declared.pos.Pos.{Pos}
use Rattle.tok_data.specs.declared.sources.TokId.{TokId}
use Rattle.unit_index.specs.Known.{Known}
use Rattle.unit_index.specs.Speaking.{Speech, speaking}
use Rattle.c_session.specs.Hover.{of_speech, of_token, hover}
use Rattle.c_session.specs.Places.{range_in}
use Rattle.c_session.specs.Positions.{token_at}

pub hover_told : (us : List Known) (texts : Texts) (encoding : Encoding) (path : List ℕ) (pos : Pos) (tok : TokId) (speech : Speech) (range : Pos × Pos) →
    Some tok ≡ token_at texts encoding path pos → Some speech ≡ speaking us tok → range ≡ range_in (text_in texts path) encoding tok.at →
    of_speech range (Some speech) ≡ hover us texts encoding path pos
unfolding hover
hover_told us texts encoding path pos tok speech range found speaks at =
    ap (λ r. of_speech r (Some speech)) at
    ∙ ap (of_speech (range_in (text_in texts path) encoding tok.at)) speaks
    ∙ ap (of_token us texts encoding path) found
