-- Reading a document with the tree of a parser from its parts.
use Rattle.std.proofs.Common.{◌≡◌, ℕ, List, codes, Option, Some, refl}
use Rattle.serde_json.specs.Data.{Data, Members}
use Rattle.serde_json.specs.Find.{as_object, as_str}
use Rattle.deno_graph_json.specs.Read.Partial.{◌>>=◌, member_at, member_or}
use Rattle.deno_graph_json.proofs.Reading.{goes_on}
use Rattle.deno_graph_source.specs.declared.tree.media_type.MediaType.{MediaType}
use Rattle.deno_graph_source.specs.declared.tree.node.Program.{Program}
use Rattle.modinfo_document.specs.Comments.{Sides}
use Rattle.modinfo_document.specs.Document.{Contents}
use Rattle.modinfo_document.specs.Kind.{media_types}
use Rattle.modinfo_document.specs.Named.{reads_named}
use Rattle.modinfo_estree.specs.Document.{reads_estree, reads_tree, units}
use Rattle.modinfo_estree.specs.declared.offsets.OffsetUnit.{OffsetUnit}
use Rattle.modinfo_estree.specs.declared.offsets.OffsetUnit.TheVariants.{Utf16}

module _ (specifier : List ℕ) (media_type : MediaType) (text : List ℕ) where
  -- The contents of a document, once the first three parts are known.
  abbrev pub contents_with : Sides × Program → Contents
  contents_with tree = record {
    specifier = specifier;
    media_type = media_type;
    source = text;
    comments = tree.0;
    program = tree.1;
  }

  -- What is read in this unit.
  abbrev pub contents_in : Members → OffsetUnit → Option Contents
  contents_in ms unit =
      reads_tree (record { unit = unit; text = text }) ms >>= (λ tree. Some (contents_with tree))

  pub estree_read : (d : Data) (ms : Members) → as_object d ≡ Some ms
      → member_at as_str (codes "specifier") ms ≡ Some specifier
      → member_at (reads_named media_types) (codes "mediaType") ms ≡ Some media_type
      → member_at as_str (codes "source") ms ≡ Some text
      → reads_estree d
      ≡ (member_or (reads_named units) (codes "offsets") Utf16 ms >>= contents_in ms)
  unfolding reads_estree
  estree_read d ms is_object is_specifier is_media_type is_source =
      goes_on _ _ ms _ is_object (goes_on _ _ specifier _ is_specifier
      (goes_on _ _ media_type _ is_media_type (goes_on _ _ text _ is_source refl)))
