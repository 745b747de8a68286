pub mod CallerLemmas
pub mod PictureLemmas
pub mod SoftenLemmas
