pub mod TagList
