-- The kind of a dependency, and its import attributes.
use Rattle.std.specs.Prelude.{Option, Some, None}
use Rattle.deno_graph_info.specs.declared.analysis.dependency.DependencyDescriptor.{DependencyDescriptor}
use Rattle.deno_graph_info.specs.declared.analysis.dependency.DependencyDescriptor.TheVariants.{Static}
use Rattle.deno_graph_info.specs.declared.analysis.dependency.DependencyDescriptor.TheVariants.{Dynamic}
use Rattle.deno_graph_info.specs.declared.analysis.dynamic_dependency.DynamicDependencyDescriptor.{DynamicDependencyDescriptor}
use Rattle.deno_graph_info.specs.declared.analysis.import_attributes.ImportAttributes.{ImportAttributes}
use Rattle.deno_graph_info.specs.declared.analysis.static_dependency.StaticDependencyDescriptor.{StaticDependencyDescriptor}

-- the static dependency, or none for a dynamic one
abbrev pub static_of : DependencyDescriptor → Option StaticDependencyDescriptor
static_of (Static d) = Some d
static_of (Dynamic d) = None

-- the dynamic dependency, or none for a static one
abbrev pub dynamic_of : DependencyDescriptor → Option DynamicDependencyDescriptor
dynamic_of (Static d) = None
dynamic_of (Dynamic d) = Some d

-- the import attributes of the dependency
abbrev pub attributes_of : DependencyDescriptor → ImportAttributes
attributes_of (Static d) = d.import_attributes
attributes_of (Dynamic d) = d.import_attributes
