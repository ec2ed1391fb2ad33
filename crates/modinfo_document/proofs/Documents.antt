-- Reading a document from its parts.
use Rattle.std.proofs.Common.{◌≡◌, ℕ, List, codes, Option, Some, None, refl}
use Rattle.serde_json.specs.Data.{Data, Members}
use Rattle.serde_json.specs.Find.{as_object, as_str}
use Rattle.deno_graph_json.specs.Read.Partial.{◌>>=◌, member_at}
use Rattle.deno_graph_json.proofs.Reading.{goes_on}
use Rattle.deno_graph_source.specs.declared.tree.media_type.MediaType.{MediaType}
use Rattle.deno_graph_source.specs.declared.tree.node.Program.{Program}
use Rattle.modinfo_document.specs.Comments.{Sides, reads_sides}
use Rattle.modinfo_document.specs.Document.{Contents, reads_document}
use Rattle.modinfo_document.specs.internal.Document.{reads_tree}
use Rattle.modinfo_document.specs.Kind.{media_types}
use Rattle.modinfo_document.specs.Named.{reads_named}
use Rattle.modinfo_document.specs.Node.{reads_program}

-- A value made of two values that are read.
both_read : {A B C : Type 0} (a : Option A) (b : Option B) (make : A → B → C)
    → (a >>= (λ x. b >>= (λ y. Some (make x y))))
    ≡ (◌>>=◌ {A = A × B} (a >>= (λ x. b >>= (λ y. Some (x, y)))) (λ both. Some (make both.0 both.1)))
both_read None b make = refl
both_read (Some x) None make = refl
both_read (Some x) (Some y) make = refl

module _ (specifier : List ℕ) (media_type : MediaType) (source : List ℕ) where
  -- The contents of a document, once the first three parts are known.
  abbrev pub contents_with : Sides × Program → Contents
  contents_with tree = record {
    specifier = specifier;
    media_type = media_type;
    source = source;
    comments = tree.0;
    program = tree.1;
  }

  pub document_read : (d : Data) (ms : Members) → as_object d ≡ Some ms
      → member_at as_str (codes "specifier") ms ≡ Some specifier
      → member_at (reads_named media_types) (codes "mediaType") ms ≡ Some media_type
      → member_at as_str (codes "source") ms ≡ Some source
      → reads_document d ≡ (reads_tree ms >>= (λ tree. Some (contents_with tree)))
  unfolding reads_document reads_tree
  document_read d ms is_object is_specifier is_media_type is_source =
      goes_on _ _ ms _ is_object (goes_on _ _ specifier _ is_specifier
      (goes_on _ _ media_type _ is_media_type (goes_on _ _ source _ is_source
      (both_read (reads_sides ms) (member_at reads_program (codes "program") ms)
      (λ comments program. contents_with (comments, program))))))
