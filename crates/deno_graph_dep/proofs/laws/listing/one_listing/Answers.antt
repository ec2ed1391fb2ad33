use Rattle.deno_graph_dep.specs.internal.ListingPaths.{listing_paths}
use Rattle.deno_graph_dep.proofs.Listings.{IsListing-listing_paths, IsListing-unique}
use Rattle.deno_graph_dep.proofs.laws.listing.one_listing.Goals as goal

pub returns : goal.returns
returns c = record {
  some = λ rules body. (listing_paths rules body, IsListing-listing_paths rules body);
  only = IsListing-unique;
}
