-- What the cut keeps of the front of an item: each token changes it by what it is.
use Rattle.std.specs.Prelude.{ℕ, Bool, false, not, ◌&&◌, ◌||◌, ◌==◌, List}
use Rattle.tok_data.specs.declared.tokens.OutToken.{OutToken}
use Rattle.item_cut.specs.declared.progress.Progress.{Progress}
use Rattle.item_cut.specs.Items.{depth, depth_after, last_is, has_equals, has_body}
use Rattle.item_cut.specs.Marks.{is_open_brace, is_close_brace, is_close_paren, is_semicolon, is_equals}

unfoldable pub progress_of : List OutToken → Progress
progress_of front = record {
  depth = depth front;
  closed = last_is is_close_paren false front;
  assigned = has_equals front;
  body = has_body front;
}

-- the token opens the item's body
unfoldable pub opens : Progress → List ℕ → Bool
opens p text = is_open_brace text && p.depth == 0 && p.closed && not p.assigned

unfoldable pub after : Progress → List ℕ → Progress
after p text = record {
  depth = depth_after p.depth text;
  closed = is_close_paren text;
  assigned = p.assigned || (is_equals text && p.depth == 0);
  body = p.body || opens p text;
}

-- the token that led here ends the item
unfoldable pub ends : Progress → List ℕ → Bool
ends p text = p.depth == 0 && (is_semicolon text || is_close_brace text && p.body)
