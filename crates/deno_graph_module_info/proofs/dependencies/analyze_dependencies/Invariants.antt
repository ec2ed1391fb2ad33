-- The dependencies so far are those of the items so far, and the others are still to come.
use Rattle.std.proofs.Common.{◌≡◌, ◌++◌, List, map, All}
use Rattle.std.specs.List.{AllZip}
use Rattle.deno_graph_dep.specs.Descriptor.{Descriptor, descriptor_seen}
use Rattle.deno_graph_module_info.specs.ModuleInfo.{CoversTypes, Describes, FitsText}
use Rattle.deno_graph_module_info.specs.internal.ReadTypes.{AreRead}
use Rattle.deno_graph_module_info.proofs.dependencies.analyze_dependencies.Given as goal

abbrev pub invariant-loop-descriptor : goal.invariant-loop-descriptor
invariant-loop-descriptor l = record {
  done : List Descriptor;
  whole : map descriptor_seen l.initial.descriptor-iterator.rest.items ≡ done
      ++ map descriptor_seen l.descriptor-iterator.rest.items;
  described : AllZip (Describes l.text_info) done l.dependencies;
  cover : All (CoversTypes l.text_info) l.dependencies;
  read : AreRead l.text_info l.read;
  fits : All (FitsText l.text_info) (map descriptor_seen l.descriptor-iterator.rest.items);
}
