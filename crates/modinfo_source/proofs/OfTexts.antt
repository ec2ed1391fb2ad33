-- Trees and comments that are those of a text.
use Rattle.std.proofs.Common.{ℕ, Bool, List, Option, None, map, subst}
use Rattle.std.specs.List.{All}
use Rattle.deno_graph_base.specs.declared.text.position.SourceRange.{SourceRange}
use Rattle.deno_graph_source.specs.Comments.{FiledComments}
use Rattle.deno_graph_source.specs.declared.tree.node.Program.{Program}
use Rattle.deno_graph_source.specs.Node.{nodes_of}
use Rattle.modinfo_imports.proofs.ClaimedNodes.{claimed-all, claimed-parts}
use Rattle.modinfo_imports.specs.Nodes.{AreMarks, AreClaims, part_claim}
use Rattle.modinfo_pieces.specs.declared.piece.Piece.{Piece}
use Rattle.modinfo_imports.specs.Found.{HasFound}
use Rattle.modinfo_pieces.proofs.Filings.{filed-comments}
use Rattle.modinfo_pieces.specs.Places.{start}
use Rattle.modinfo_imports.specs.declared.claims.Mark.{Mark}
use Rattle.modinfo_pieces.specs.declared.choice.Choice.{Choice}
use Rattle.modinfo_pieces.specs.declared.filed.FiledComment.{FiledComment}
use Rattle.modinfo_source.proofs.PartPieces.{nodes-more}
use Rattle.modinfo_source.specs.Spelled.{IsSpelled, NodeIsSpelled}
use Rattle.modinfo_source.specs.Comments.{AreFiled, AreFrom, HasComments}
use Rattle.modinfo_source.specs.OfText.{HasClaims, IsOfText, start_of}

-- The tree and the comments are of the text.
pub IsOfText-claimed : (text : List ℕ) (is_typed : Bool) (program : Program) (parts : List SourceRange)
    (claims : List Piece) (marks : List Mark) (comments : FiledComments) → AreClaims text program parts claims
    → All (NodeIsSpelled text (map (part_claim text) parts)) (nodes_of program) → AreMarks text program marks
    → HasClaims text is_typed claims marks (start_of program.body) comments
    → IsOfText text is_typed program comments
IsOfText-claimed text is_typed program parts claims marks comments are spelled are_marks has = record {
  choices = has.choices;
  pieces = has.pieces;
  are_tiles = has.are_tiles;
  are_comments = has.are_comments;
  are_filed = has.are_filed;
  nothing_invented = claimed-all text program parts claims has.pieces are has.are_pieces;
  spelled = nodes-more text (map (part_claim text) parts) has.pieces (nodes_of program)
      (claimed-parts text program parts claims has.pieces are has.are_pieces) spelled;
  parts = parts;
  claims = claims;
  marks = marks;
  are_claims = are;
  are_marks = are_marks;
  nothing_lost = has.are_watched;
  begins = has.begins;
}

pub IsSpelled-claimed : (text : List ℕ) (is_typed : Bool) (program : Program) (parts : List SourceRange)
    (claims : List Piece) (marks : List Mark) (body : Option ℕ) (comments : FiledComments)
    → AreClaims text program parts claims
    → All (NodeIsSpelled text (map (part_claim text) parts)) (nodes_of program)
    → HasClaims text is_typed claims marks body comments → IsSpelled text program
IsSpelled-claimed text is_typed program parts claims marks body comments are spelled has = record {
  choices = has.choices;
  pieces = has.pieces;
  are_tiles = has.are_tiles;
  spelled = nodes-more text (map (part_claim text) parts) has.pieces (nodes_of program)
      (claimed-parts text program parts claims has.pieces are has.are_pieces) spelled;
}

pub HasComments-claimed : (text : List ℕ) (is_typed : Bool) (claims : List Piece) (marks : List Mark)
    (body : Option ℕ)
    (comments : FiledComments) → HasClaims text is_typed claims marks body comments
    → HasComments text comments
HasComments-claimed text is_typed claims marks body comments has = record {
  choices = has.choices;
  pieces = has.pieces;
  are_tiles = has.are_tiles;
  are_from = has.are_comments;
  are_filed = has.are_filed;
}

-- The text has the claims and the marks, and its comments are filed.
pub HasClaims-found : (text : List ℕ) (is_typed : Bool) (choices : List Choice) (claims : List Piece)
    (marks : List Mark)
    (body : Option ℕ) (filed : List FiledComment) (comments : FiledComments)
    → HasFound text is_typed choices claims marks body filed → AreFiled text filed comments
    → HasClaims text is_typed claims marks body comments
HasClaims-found text is_typed choices claims marks body filed comments found are =
    let are_filed = subst (λ (l : List FiledComment). AreFiled text l comments) found.comments_are are in
    record {
      choices = choices;
      pieces = found.pieces;
      are_tiles = found.are_tiles;
      are_comments = subst (λ (l : List Piece). AreFrom text l comments)
          (filed-comments text (start choices) None found.pieces) are_filed.all;
      are_filed = are_filed;
      are_pieces = found.are_pieces;
      are_watched = found.are_watched;
      begins = found.begins;
    }
