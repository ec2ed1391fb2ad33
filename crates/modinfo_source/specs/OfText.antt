-- Trees and comments that are those of a text.
use Rattle.std.specs.Prelude.{ℕ, Bool, List, [], ◌∷◌, Option, Some, None, IsTrue, filter}
use Rattle.std.specs.List.{All, Contains}
use Rattle.deno_graph_base.specs.declared.text.position.SourceRange.{SourceRange}
use Rattle.deno_graph_source.specs.Comments.{FiledComments}
use Rattle.deno_graph_source.specs.Node.{nodes_of, range_of}
use Rattle.deno_graph_source.specs.declared.tree.node.Node.{Node}
use Rattle.deno_graph_source.specs.declared.tree.node.Program.{Program}
use Rattle.modinfo_imports.specs.Found.{AreWatched, begins_at, first_token}
use Rattle.modinfo_imports.specs.Nodes.{AreMarks, AreClaims, claims_of}
use Rattle.modinfo_pieces.specs.Filed.{filed_from}
use Rattle.modinfo_pieces.specs.Places.{start}
use Rattle.modinfo_pieces.specs.Tiles.{AreTiles, is_comment}
use Rattle.modinfo_imports.specs.declared.claims.Mark.{Mark}
use Rattle.modinfo_pieces.specs.declared.choice.Choice.{Choice}
use Rattle.modinfo_pieces.specs.declared.piece.Piece.{Piece}
use Rattle.modinfo_source.specs.Comments.{AreFiled, AreFrom}
use Rattle.modinfo_source.specs.Spelled.{NodeIsSpelled}

-- Where the first of these nodes begins, if there is one.
abbrev pub start_of : List Node → Option ℕ
start_of [] = None
start_of (node ∷ _) = Some (range_of node).start

-- Comments are those of a text, filed, and the text has these claims and marks. The body's first item begins
-- at `body`, if there is one.
pub record HasClaims (text : List ℕ) (is_typed : Bool) (claims : List Piece) (marks : List Mark)
    (body : Option ℕ)
    (comments : FiledComments) : Type 0 where
  pub choices : List Choice
  pub pieces : List Piece
  pub are_tiles : AreTiles text choices pieces
  pub are_comments : AreFrom text (filter is_comment pieces) comments
  pub are_filed : AreFiled text (filed_from text (start choices) None pieces) comments
  pub are_pieces : All (Contains pieces) claims
  pub are_watched : AreWatched text is_typed choices claims marks pieces
  pub begins : IsTrue (begins_at text (first_token pieces) body)

-- A tree and its comments are those of a text: the text is pieces side by side, and the comments are exactly
-- those among them, filed. Nothing is invented: each piece that a node has is one of the text's. Nothing is
-- lost: at each word of the text that a dependency begins with a node begins, or what is around the word
-- shows that none does. The first item of the body begins at the first token.
pub record IsOfText (text : List ℕ) (is_typed : Bool) (program : Program) (comments : FiledComments) : Type 0
  where
    pub choices : List Choice
    pub pieces : List Piece
    pub are_tiles : AreTiles text choices pieces
    pub are_comments : AreFrom text (filter is_comment pieces) comments
    pub are_filed : AreFiled text (filed_from text (start choices) None pieces) comments
    pub nothing_invented : All (λ node. All (Contains pieces) (claims_of text node)) (nodes_of program)
    pub parts : List SourceRange
    pub claims : List Piece
    pub marks : List Mark
    pub are_claims : AreClaims text program parts claims
    pub spelled : All (NodeIsSpelled text pieces) (nodes_of program)
    pub are_marks : AreMarks text program marks
    pub nothing_lost : AreWatched text is_typed choices claims marks pieces
    pub begins : IsTrue (begins_at text (first_token pieces) (start_of program.body))
