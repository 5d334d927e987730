-- The contents of an input that the plain server handles, each with its reply: one response for each request, and none
-- for a notification (JSON-RPC 2.0, 4 and 5).
use Rattle.std.specs.Prelude.{◌≡◌, ◌≢◌, ℕ, List, [], ◌∷◌, ◌++◌, take, map}
use Rattle.std.specs.List.{All, flat_map}
use Rattle.lsp_framing.specs.Frames.{frames}
use Rattle.c_session.specs.Message.{message}
use Rattle.c_session.specs.Responses.{IsAnswered, IsExit}
use Rattle.project_conf.specs.declared.options.Options.{Options}
use Rattle.c_session.specs.State.{fresh}
use Rattle.c11ls.specs.Calls.{Call}
use Rattle.c11ls.specs.Plain.{Stop, Exited, Lacks, Through, play, played}
use Rattle.c11ls.specs.Serve.{Begins, input_of}
use Rattle.c11ls.specs.declared.status.Status.{Status}
use Rattle.c11ls.specs.declared.status.Status.TheVariants as status

-- a content and the reply to it
pub record Exchange : Type 0 where
  pub content : List ℕ
  pub reply : List ℕ

abbrev pub contents_of : List Exchange → List (List ℕ)
contents_of exchanges = map (λ e. e.content) exchanges

-- the replies, joined
abbrev pub replies_of : List Exchange → List ℕ
replies_of exchanges = flat_map (λ e. e.reply) exchanges

-- the reply answers the content
abbrev pub ReplyAnswersContent : Exchange → Type 0
ReplyAnswersContent e = IsAnswered (message e.content) e.reply

-- the content is no `exit`
abbrev pub IsNoExit : Exchange → Type 0
IsNoExit e = IsExit (message e.content) → ⊥

-- the last one has an `exit`, and no other
pub record EndAtExit (exchanges : List Exchange) : Type 0 where
  pub before : List Exchange
  pub last : Exchange
  pub ends : exchanges ≡ before ++ last ∷ []
  pub exits : IsExit (message last.content)
  pub others : All IsNoExit before

-- What is left behind the contents that were handled, by where the play of all stops: contents behind an `exit` aren't
-- handled; nor is the one that wants an answer of the store; else none is left. Where no `exit` is met, none was handled.
abbrev pub StopsAt : Stop → List Exchange → List (List ℕ) → Type 0
StopsAt (Exited end) exchanges rest = EndAtExit exchanges
StopsAt (Lacks call) exchanges rest = (rest ≢ []) × All IsNoExit exchanges
StopsAt (Through s) exchanges rest = (rest ≡ []) × All IsNoExit exchanges

-- What is written for contents, up to where their play stops: the replies to them in order, each of which answers its
-- content.
pub record AreAnswered (contents : List (List ℕ)) (stop : Stop) (out : List ℕ) : Type 0 where
  pub exchanges : List Exchange
  pub rest : List (List ℕ)
  pub handled : contents ≡ contents_of exchanges ++ rest
  pub each : All ReplyAnswersContent exchanges
  pub written : out ≡ replies_of exchanges
  pub stopped : StopsAt stop exchanges rest

-- these bytes answer what the input has, with the store's answers of a call
abbrev pub Answer : Options → List ℕ → Call → List ℕ → Type 0
Answer options input call out = AreAnswered (frames input).contents (played options input call.answers).stop out

-- What the sink got answers the input that the status reads; at a fault of the sink it is a front of what does, and for
-- want of memory it answers all messages up to some one.
abbrev pub HasAnswered : Options → Status → Call → Type 0
HasAnswered options status.WriteFault call =
    (whole : List ℕ) × Answer options call.left call whole × Begins call.out whole
HasAnswered options status.NoMemory call =
    (n : ℕ) × AreAnswered (take n (frames call.taken).contents)
    (play (take n (frames call.taken).contents) (fresh options) call.answers).stop call.out
HasAnswered options ended call = Answer options (input_of ended call) call call.out
