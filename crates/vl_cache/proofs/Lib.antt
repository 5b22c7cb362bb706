pub mod CacheLaws
