-- The descriptor of a dependency, with values in place of borrows.
use Rattle.std.specs.Prelude.{ℕ, List, Bool}
use Rattle.deno_graph_base.specs.SourceRange.{IsTextRange}
use Rattle.deno_graph_base.specs.declared.text.position.SourceRange.{SourceRange}
use Rattle.deno_graph_source.specs.declared.tree.comments.DependencyComment.{DependencyComment}
use Rattle.deno_graph_info.specs.declared.analysis.dynamic_dependency.DynamicDependencyKind.{DynamicDependencyKind}
use Rattle.deno_graph_info.specs.declared.analysis.import_attributes.ImportAttributes.{ImportAttributes}
use Rattle.deno_graph_info.specs.declared.analysis.static_dependency.StaticDependencyKind.{StaticDependencyKind}
use Rattle.deno_graph_dep.specs.Argument.{Form, form_seen}
use Rattle.deno_graph_dep.specs.declared.descriptor.DependencyDescriptor.{DependencyDescriptor}
use Rattle.deno_graph_dep.specs.declared.descriptor.DependencyDescriptor.TheVariants.{Static, Dynamic}
use Rattle.deno_graph_dep.specs.declared.descriptor.DynamicDependencyDescriptor.{DynamicDependencyDescriptor}
use Rattle.deno_graph_dep.specs.declared.descriptor.StaticDependencyDescriptor.{StaticDependencyDescriptor}

-- the descriptor of a dependency whose specifier is a string literal
pub record StaticDescriptor : Type 0 where
  pub kind : StaticDependencyKind
  pub leading_comments : List DependencyComment
  pub range : SourceRange
  pub specifier : List ℕ
  pub specifier_range : SourceRange
  pub is_side_effect : Bool
  pub import_attributes : ImportAttributes

-- the descriptor of a call of `import` or `require`
pub record DynamicDescriptor : Type 0 where
  pub kind : DynamicDependencyKind
  pub leading_comments : List DependencyComment
  pub range : SourceRange
  pub argument : Form
  pub argument_range : SourceRange
  pub import_attributes : ImportAttributes

pub data Descriptor : Type 0 where
  static_descriptor : StaticDescriptor → Descriptor
  dynamic_descriptor : DynamicDescriptor → Descriptor

abbrev pub static_descriptor_seen : StaticDependencyDescriptor → StaticDescriptor
static_descriptor_seen d = record {
  kind = d.kind;
  leading_comments = d.leading_comments.now;
  range = d.range;
  specifier = d.specifier.now;
  specifier_range = d.specifier_range;
  is_side_effect = d.is_side_effect;
  import_attributes = d.import_attributes;
}

abbrev pub dynamic_descriptor_seen : DynamicDependencyDescriptor → DynamicDescriptor
dynamic_descriptor_seen d = record {
  kind = d.kind;
  leading_comments = d.leading_comments.now;
  range = d.range;
  argument = form_seen d.argument;
  argument_range = d.argument_range;
  import_attributes = d.import_attributes;
}

-- the descriptor of the code, with values in place of borrows
abbrev pub descriptor_seen : DependencyDescriptor → Descriptor
descriptor_seen (Static d) = static_descriptor (static_descriptor_seen d)
descriptor_seen (Dynamic d) = dynamic_descriptor (dynamic_descriptor_seen d)

-- the range of the specifier, or of the argument, is a range of the text
abbrev pub HasTextRanges : List ℕ → Descriptor → Type 0
HasTextRanges text (static_descriptor descriptor) = IsTextRange text descriptor.specifier_range
HasTextRanges text (dynamic_descriptor descriptor) = IsTextRange text descriptor.argument_range
